-- The grammar of forms. `Reads r at signs e` and `Derives l at signs f` say that these signs, the first of
-- which stands at place `at`, are the expression e or the form f.
use Rattle.std.specs.Prelude.{◌≡◌, ℕ, ◌+◌, List, [], ◌∷◌, ◌++◌, length}
use Rattle.za_expression.specs.declared.sign.Sign.{Sign}
use Rattle.za_expression.specs.declared.sign.Sign.TheVariants.{Name, Empty, Open, Close, Begin, End}
use Rattle.za_expression.specs.declared.sign.Sign.TheVariants.{Bar, Times, Ampersand, Bang}
use Rattle.za_expression.specs.Plain.{Plain, One, Occurrence, Sequence, Or, Star}
use Rattle.za_expression.specs.Forms.{Form, Part, And, Not}

-- a rank of plain expressions: an atom; an item, which is an atom and any number of `*`; a product, which is
-- one or more items; a sum, which is one or more products joined by `|`
pub data Rank : Type 0 where
  Atom : Rank
  Item : Rank
  Product : Rank
  Sum : Rank

pub data Reads : Rank → ℕ → List Sign → Plain → Type 0 where
  -- an atom is a letter, or 1, or ( a sum )
  Named : {at : ℕ} (letter : ℕ) → Reads Atom at (Name letter ∷ []) (Occurrence at)
  EmptyWord : {at : ℕ} → Reads Atom at (Empty ∷ []) One
  Group : {at : ℕ} {e : Plain} (us : List Sign) {signs : List Sign} →
      Reads Sum (at + 1) us e → signs ≡ Open ∷ (us ++ Close ∷ []) → Reads Atom at signs e
  -- an item is an atom, or an item and *
  Bare : {at : ℕ} {e : Plain} {signs : List Sign} → Reads Atom at signs e → Reads Item at signs e
  Starred : {at : ℕ} {e : Plain} (us : List Sign) {signs : List Sign} →
      Reads Item at us e → signs ≡ us ++ Times ∷ [] → Reads Item at signs (Star e)
  -- a product is an item, or a product and an item
  Single : {at : ℕ} {e : Plain} {signs : List Sign} → Reads Item at signs e → Reads Product at signs e
  Next : {at : ℕ} {d e : Plain} (us vs : List Sign) {signs : List Sign} →
      Reads Product at us d → Reads Item (at + length us) vs e → signs ≡ us ++ vs →
      Reads Product at signs (Sequence d e)
  -- a sum is a product, or a sum, | and a product
  Alone : {at : ℕ} {e : Plain} {signs : List Sign} → Reads Product at signs e → Reads Sum at signs e
  Other : {at : ℕ} {d e : Plain} (us vs : List Sign) {signs : List Sign} →
      Reads Sum at us d → Reads Product (at + length us + 1) vs e → signs ≡ us ++ Bar ∷ vs →
      Reads Sum at signs (Or d e)

-- a unary, or a whole form, which is one or more unaries joined by `&`
pub data Level : Type 0 where
  Unary : Level
  Whole : Level

pub data Derives : Level → ℕ → List Sign → Form → Type 0 where
  -- a unary is a sum, or ! and a unary, or { a form }
  Plainly : {at : ℕ} {e : Plain} {signs : List Sign} → Reads Sum at signs e → Derives Unary at signs (Part e)
  Denied : {at : ℕ} {f : Form} (us : List Sign) {signs : List Sign} →
      Derives Unary (at + 1) us f → signs ≡ Bang ∷ us → Derives Unary at signs (Not f)
  Braced : {at : ℕ} {f : Form} (us : List Sign) {signs : List Sign} →
      Derives Whole (at + 1) us f → signs ≡ Begin ∷ (us ++ End ∷ []) → Derives Unary at signs f
  -- a form is a unary, or a form, & and a unary
  Only : {at : ℕ} {f : Form} {signs : List Sign} → Derives Unary at signs f → Derives Whole at signs f
  Joined : {at : ℕ} {f g : Form} (us vs : List Sign) {signs : List Sign} →
      Derives Whole at us f → Derives Unary (at + length us + 1) vs g → signs ≡ us ++ Ampersand ∷ vs →
      Derives Whole at signs (And f g)

-- the signs from place `at` on are the form
abbrev pub IsForm : ℕ → List Sign → Form → Type 0
IsForm at signs f = Derives Whole at signs f

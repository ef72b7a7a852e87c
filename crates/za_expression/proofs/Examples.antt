-- Small expressions by computation.
use Rattle.std.proofs.Common.{◌≡◌, ℕ, true, false, List, [], ◌∷◌, Some, None, get_or, refl}
use Rattle.za_expression.specs.declared.sign.Sign.{Sign}
use Rattle.za_expression.specs.declared.sign.Sign.TheVariants.{Name, Empty, Open, Close, Begin, End, Bar, Times, Ampersand, Bang}
use Rattle.za_expression.specs.Plain.{One, Occurrence, Sequence, Or, Star}
use Rattle.za_expression.specs.Forms.{Form, Part, And, Not, is_meant}
use Rattle.za_expression.specs.Grammar.{IsForm}
use Rattle.za_expression.specs.Values.{HasIn}
use Rattle.za_expression.specs.Following.{goes, following_value}
use Rattle.za_expression.proofs.Sound.{sound}
use Rattle.za_expression.proofs.Complete.{complete}

-- ( a | b ) *
unfoldable all_words : List Sign
all_words = Open ∷ Name 0 ∷ Bar ∷ Name 1 ∷ Close ∷ Times ∷ []

unfoldable all_form : Form
all_form = Part (Star (Or (Occurrence 2) (Occurrence 4)))

unfoldable letters : ℕ → ℕ
letters p = get_or (9 ∷ 9 ∷ 0 ∷ 9 ∷ 1 ∷ []) p 9

is_form : IsForm 1 all_words all_form
unfolding all_words all_form
is_form = sound all_words all_form refl

has_word : is_meant letters all_form (0 ∷ 1 ∷ 1 ∷ 0 ∷ []) ≡ true
unfolding all_form letters
has_word = refl

not_word : is_meant letters (Not all_form) (0 ∷ 1 ∷ []) ≡ false
unfolding all_form letters
not_word = refl

-- a b ends at the occurrence of b alone
value_of_ab : following_value (goes all_form) letters 6 (0 ∷ 1 ∷ []) ≡ 4 ∷ []
unfolding all_form letters
value_of_ab = refl

ends_at_b : HasIn letters all_form (0 ∷ 1 ∷ []) 4
unfolding all_form letters
ends_at_b = record { before = 2 ∷ []; after = []; spells = refl; marked = refl }

-- a |
no_form : (f : Form) → ¬ IsForm 1 (Name 0 ∷ Bar ∷ []) f
no_form f h = let e : None ≡ Some f = complete (Name 0 ∷ Bar ∷ []) f h in cc

-- a & b in parentheses
no_plain : (f : Form) → ¬ IsForm 1 (Open ∷ Name 0 ∷ Ampersand ∷ Name 1 ∷ Close ∷ []) f
no_plain f h = let e : None ≡ Some f = complete (Open ∷ Name 0 ∷ Ampersand ∷ Name 1 ∷ Close ∷ []) f h in cc

-- ! { a & b } & 1
braces : IsForm 1 (Bang ∷ Begin ∷ Name 0 ∷ Ampersand ∷ Name 1 ∷ End ∷ Ampersand ∷ Empty ∷ [])
    (And (Not (And (Part (Occurrence 3)) (Part (Occurrence 5)))) (Part One))
braces = sound (Bang ∷ Begin ∷ Name 0 ∷ Ampersand ∷ Name 1 ∷ End ∷ Ampersand ∷ Empty ∷ [])
    (And (Not (And (Part (Occurrence 3)) (Part (Occurrence 5)))) (Part One)) refl

-- a | b a: the bar binds looser than the product
bar_is_looser : IsForm 1 (Name 0 ∷ Bar ∷ Name 1 ∷ Name 0 ∷ []) (Part (Or (Occurrence 1) (Sequence (Occurrence 3) (Occurrence 4))))
bar_is_looser = sound (Name 0 ∷ Bar ∷ Name 1 ∷ Name 0 ∷ []) (Part (Or (Occurrence 1) (Sequence (Occurrence 3) (Occurrence 4)))) refl

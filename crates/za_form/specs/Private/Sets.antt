-- Sets of places as numbers.
use Rattle.std.specs.Prelude.{◌≡◌, ℕ, suc, ◌<◌, Bool, ◌||◌, ◌&&◌, ◌==◌, nat_lt, List, length, slice_index}
use Rattle.std.specs.List.{list_any}
use Rattle.za_expression.specs.declared.sign.Sign.{Sign}
use Rattle.za_expression.specs.Plain.{Plain, One, Occurrence, Sequence, Or, Star}
use Rattle.za_expression.specs.Forms.{Form, Part, And, Not}
use Rattle.za_expression.specs.Following.{goes}
use Rattle.za_form.specs.Expressions.{letter_at}
use Rattle.za_form.specs.Private.Numbers.{has_bit, form_of, places_of}

-- the bits of m are the places that pass
pub record IsSet (m : ℕ) (test : ℕ → Bool) : Type 0 where
  pub bits : (q : ℕ) → has_bit m q ≡ test q

-- each row p of new is that of old with the places that pass after p
pub record AddsSteps (old new : List ℕ) (steps : ℕ → ℕ → Bool) : Type 0 where
  pub size : length new ≡ length old
  pub rows : (p q : ℕ) → p < length old →
      has_bit (slice_index new p) q ≡ (has_bit (slice_index old p) q || steps p q)

-- each occurrence is from 1 on and below n
abbrev pub IsBelow : ℕ → Plain → Type 0
IsBelow n One = Unit {0}
IsBelow n (Occurrence p) = (0 < p) × (p < n)
IsBelow n (Sequence a b) = IsBelow n a × IsBelow n b
IsBelow n (Or a b) = IsBelow n a × IsBelow n b
IsBelow n (Star a) = IsBelow n a

abbrev pub IsFormBelow : ℕ → Form → Type 0
IsFormBelow n (Part e) = IsBelow n e
IsFormBelow n (And a b) = IsFormBelow n a × IsFormBelow n b
IsFormBelow n (Not a) = IsFormBelow n a

-- row p has the places that may stand next after p
pub record AreRows (signs : List Sign) (rows : List ℕ) : Type 0 where
  pub each : (p q : ℕ) → p < suc (length signs) → has_bit (slice_index rows p) q ≡ goes (form_of signs) p q

-- the places that may stand next after those of m
abbrev pub IsAfter : List Sign → ℕ → ℕ → Type 0
IsAfter signs m all =
    IsSet all (λ q. list_any (λ p. goes (form_of signs) p q) (places_of (length signs) m))

-- whether the letter a stands at place q
abbrev pub stands_at : List Sign → ℕ → ℕ → Bool
stands_at signs a q = nat_lt 0 q && (nat_lt q (suc (length signs)) && letter_at signs q == a)

-- mask a has the places of letter a, for so many letters
pub record AreMasks (signs : List Sign) (letters : ℕ) (masks : List ℕ) : Type 0 where
  pub size : length masks ≡ letters
  pub each : (a q : ℕ) → a < letters → has_bit (slice_index masks a) q ≡ stands_at signs a q

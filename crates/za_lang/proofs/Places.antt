-- Places of letters by their names.
use Rattle.std.proofs.Common.{◌≡◌, ◌∙◌, ℕ, suc, ◌+◌, ◌-◌, ◌<◌, ◌≤◌, Bool, true, false, cond, List, [], ◌∷◌, length, Some, ap, sym, inl, inr, arith}
use Rattle.std.proofs.lemmas.Bool.{cases_Bool}
use Rattle.std.proofs.lemmas.Slice.Eq.{bytes_eq-Decides}
use Rattle.std.specs.List.{position_from}
use Rattle.std.specs.Str.{bytes_eq}
use Rattle.za_alpha.specs.Alphabet.{NamedLetter, name_at, place_of}

found_below : (t : NamedLetter → Bool) (k : ℕ) (ls : List NamedLetter) (a : ℕ) → position_from t k ls ≡ Some a → a < k + length ls
found_below t k [] a h = absurd (cc)
found_below t k (l ∷ ls) a h = found_at (t l) k ls a h (found_below t (k + 1) ls a)
  where
    found_at : (b : Bool) (k : ℕ) (ls : List NamedLetter) (a : ℕ) → cond b (Some k) (position_from t (k + 1) ls) ≡ Some a →
        (position_from t (k + 1) ls ≡ Some a → a < k + 1 + length ls) → a < k + length (l ∷ ls)
    found_at true k ls a h more = let e : k ≡ a = cc in omega arith
    found_at false k ls a h more = let r = more h in omega arith

-- a letter that is found is a letter
pub place_within : (ls : List NamedLetter) (name : List ℕ) (a : ℕ) → place_of ls name ≡ Some a → a < length ls
place_within ls name a h = let below = found_below (λ (l : NamedLetter). bytes_eq l.name name) 0 ls a h in omega arith

named_from : (name : List ℕ) (k : ℕ) (ls : List NamedLetter) (a : ℕ) → position_from (λ (l : NamedLetter). bytes_eq l.name name) k ls ≡ Some a →
    (k ≤ a) × (name_at ls (a - k) ≡ name)
named_from name k [] a h = absurd (cc)
named_from name k (l ∷ ls) a h =
    elim (cases_Bool (bytes_eq l.name name)) [
      | inl t ↦
          let here : k ≡ a = let e : Some k ≡ Some a = (rw t at h) in cc in
          let first : a - k ≡ 0 = omega arith in
          (omega arith, ap (name_at (l ∷ ls)) first ∙ (bytes_eq-Decides l.name name).0 t)
      | inr f ↦
          let later = named_from name (k + 1) ls a (rw f at h) in
          let low = later.0 in
          let next : a - k ≡ suc (a - (k + 1)) = omega arith in
          (omega arith, ap (name_at (l ∷ ls)) next ∙ later.1)
    ]

-- the letter that is found has the name
pub place_named : (ls : List NamedLetter) (name : List ℕ) (a : ℕ) → place_of ls name ≡ Some a → name_at ls a ≡ name
place_named ls name a h = let all : a - 0 ≡ a = omega arith in ap (name_at ls) (sym all) ∙ (named_from name 0 ls a h).1

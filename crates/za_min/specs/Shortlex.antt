-- Words in shortlex order: by length, and words of one length letter by letter, by the letters' numbers.
use Rattle.std.specs.Prelude.{ℕ, Bool, false, ◌&&◌, ◌||◌, List, [], ◌∷◌, ◌==◌, IsFalse, nat_lt, length}

-- whether u has the lesser letter at the first place where the words differ
abbrev pub is_lower : List ℕ → List ℕ → Bool
is_lower [] v = false
is_lower (a ∷ u) [] = false
is_lower (a ∷ u) (b ∷ v) = nat_lt a b || (a == b && is_lower u v)

-- whether u comes before v: it is shorter, or as long and lower
abbrev pub comes_before : List ℕ → List ℕ → Bool
comes_before u v = nat_lt (length u) (length v) || (length u == length v && is_lower u v)

-- the shortlex-least word of a kind: w is of the kind, and no word of the kind comes before it
pub record IsLeastWord (P : List ℕ → Type 0) (w : List ℕ) : Type 0 where
  pub holds : P w
  pub least : (v : List ℕ) → P v → IsFalse (comes_before v w)

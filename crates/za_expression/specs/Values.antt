-- Position values. A marked word is a word of a plain part's meaning with each occurrence taken as a letter
-- of its own, so it is a list of occurrences.
use Rattle.std.specs.Prelude.{◌≡◌, ℕ, ◌<◌, ◌++◌, ◌⊎◌, ◌↔◌, List, [], ◌∷◌, IsTrue, length, map, slice_index_or}
use Rattle.za_alpha.specs.Words.{IsWord}
use Rattle.za_expression.specs.Plain.{Plain, matches}
use Rattle.za_expression.specs.Forms.{Form, Part, And, Not}

-- some list of occurrences spells u, ends at p and is a prefix of a marked word
pub record IsIn (letter : ℕ → ℕ) (e : Plain) (u : List ℕ) (p : ℕ) : Type 0 where
  pub before : List ℕ
  pub after : List ℕ
  pub spells : map letter (before ++ p ∷ []) ≡ u
  pub marked : IsTrue (matches (λ q. q) e (before ++ p ∷ after))

-- p is in the value of u, which isn't empty
abbrev pub HasIn : (ℕ → ℕ) → Form → List ℕ → ℕ → Type 0
HasIn letter (Part e) u p = IsIn letter e u p
HasIn letter (And a b) u p = HasIn letter a u p ⊎ HasIn letter b u p
HasIn letter (Not a) u p = HasIn letter a u p

-- the words have one value: the start where they are empty, and else one set of occurrences
pub record HaveSameValue (letter : ℕ → ℕ) (f : Form) (u v : List ℕ) : Type 0 where
  pub start : (u ≡ []) ↔ (v ≡ [])
  pub set : (p : ℕ) → HasIn letter f u p ↔ HasIn letter f v p

-- words over so many letters, no two of which have one value
pub record HaveDifferentValues (letter : ℕ → ℕ) (f : Form) (letters : ℕ) (words : List (List ℕ)) : Type 0 where
  pub each : (k : ℕ) → k < length words → IsWord letters (slice_index_or words k [])
  pub apart : (j k : ℕ) → j < k → k < length words →
      ¬ HaveSameValue letter f (slice_index_or words j []) (slice_index_or words k [])

-- words over so many letters have more than n values
abbrev pub HasMoreValues : (ℕ → ℕ) → Form → ℕ → ℕ → Type 0
HasMoreValues letter f letters n =
    (words : List (List ℕ)) × HaveDifferentValues letter f letters words × (n < length words)

-- Parts of a word, and the events of two words that stand for each other, as in traces (Zielonka 1987).
use Rattle.std.specs.Prelude.{◌≡◌, ℕ, zero, suc, ◌<◌, Bool, List, [], ◌∷◌, ◌++◌, if◌then◌else◌, IsTrue, ◌==◌}
use Rattle.std.specs.Prelude.{slice_index, length, count_by, take, Option, Some, None}
use Rattle.za_order.specs.Views.{Chain}

-- the subword at those of the first n positions that pass the test
abbrev pub subword : List ℕ → (ℕ → Bool) → ℕ → List ℕ
subword w test zero = []
subword w test (suc n) = if test n then subword w test n ++ slice_index w n ∷ [] else subword w test n

-- with an event, the set has each event from which a chain leads to it
abbrev pub IsDownClosed : (ℕ → List ℕ) → (ℕ → Bool) → Type 0
IsDownClosed who set = (i j : ℕ) → IsTrue (set j) → Chain who i j → IsTrue (set i)

-- the events i of u and j of v are the k-th occurrences of one letter, for one k
pub record IsMatch (u v : List ℕ) (i j : ℕ) : Type 0 where
  pub in_first : i < length u
  pub in_second : j < length v
  pub same_letter : slice_index u i ≡ slice_index v j
  pub same_count : count_by (λ a. a == slice_index u i) (take i u) ≡ count_by (λ a. a == slice_index v j) (take j v)

-- both are none, or events that match
abbrev pub AreMatched : List ℕ → List ℕ → Option ℕ → Option ℕ → Type 0
AreMatched u v None None = Unit {0}
AreMatched u v None (Some j) = ⊥
AreMatched u v (Some i) None = ⊥
AreMatched u v (Some i) (Some j) = IsMatch u v i j

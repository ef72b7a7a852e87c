-- Words over a distributed alphabet, and trace equivalence (Zielonka 1987). A letter is a number, a set
-- of processes is a list of numbers, and `loc a` are the processes of the letter a.
use Rattle.std.specs.Prelude.{◌≡◌, ℕ, ◌<◌, Bool, not, List, ◌∷◌, ◌++◌, ◌==◌, IsTrue, filter}
use Rattle.std.specs.List.{list_any, All}

-- whether the process is in the set
abbrev pub has : List ℕ → ℕ → Bool
has ps p = list_any (λ q. q == p) ps

-- whether the sets share a process
abbrev pub meets : List ℕ → List ℕ → Bool
meets ps qs = list_any (λ p. has qs p) ps

-- whether the letters share no process
abbrev pub independent : (ℕ → List ℕ) → ℕ → ℕ → Bool
independent loc a b = not (meets (loc a) (loc b))

-- the letters are those below `letters`; each has a process, and each of its processes is below `processes`
pub record IsAlphabet (loc : ℕ → List ℕ) (letters processes : ℕ) : Type 0 where
  pub some : (a : ℕ) → a < letters → (p : ℕ) × IsTrue (has (loc a) p)
  pub below : (a p : ℕ) → a < letters → IsTrue (has (loc a) p) → p < processes

-- a word over these letters
abbrev pub IsWord : ℕ → List ℕ → Type 0
IsWord letters w = All (λ a. a < letters) w

-- the projection of the word on p: its letters of which p is a process, in order
abbrev pub projection : (ℕ → List ℕ) → ℕ → List ℕ → List ℕ
projection loc p w = filter (λ a. has (loc a) p) w

-- trace equivalence: the words have equal projections on every process
abbrev pub AreEquivalent : (ℕ → List ℕ) → List ℕ → List ℕ → Type 0
AreEquivalent loc u v = (p : ℕ) → projection loc p u ≡ projection loc p v

-- v is u with two neighbouring independent letters swapped
pub record IsSwap (loc : ℕ → List ℕ) (u v : List ℕ) : Type 0 where
  pub before : List ℕ
  pub left : ℕ
  pub right : ℕ
  pub after : List ℕ
  pub apart : IsTrue (independent loc left right)
  pub from : u ≡ before ++ left ∷ right ∷ after
  pub to : v ≡ before ++ right ∷ left ∷ after

-- finitely many swaps lead from u to v
pub data Swaps (loc : ℕ → List ℕ) : List ℕ → List ℕ → Type 0 where
  Done : {u : List ℕ} → Swaps loc u u
  Then : {u v w : List ℕ} → IsSwap loc u v → Swaps loc v w → Swaps loc u w

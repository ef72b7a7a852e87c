-- The newest of the events that several processes know.
use Rattle.std.specs.Prelude.{◌≡◌, ℕ, ◌<◌, ◌≤◌, max, List, Option, Some, None, IsTrue, IsFalse}
use Rattle.za_alpha.specs.Words.{has}

-- the later of two events, either of which may be none
abbrev pub later : Option ℕ → Option ℕ → Option ℕ
later None b = b
later (Some i) None = Some i
later (Some i) (Some j) = Some (max i j)

-- of the processes below n that are in the list, one has this entry, and none a later one; where none has an entry,
-- it is none
pub record IsNewest (ps : List ℕ) (n : ℕ) (entry : ℕ → Option ℕ) (newest : Option ℕ) : Type 0 where
  pub found : (g : ℕ) → newest ≡ Some g → (s : ℕ) × (s < n) × IsTrue (has ps s) × (entry s ≡ Some g)
  pub most :
      (s h : ℕ) → s < n → IsTrue (has ps s) → entry s ≡ Some h → (g : ℕ) × (newest ≡ Some g) × (h ≤ g)

-- what the event n, of the processes ps, knows of q: itself where q takes part, and else the newest that one of ps
-- knows
pub record IsJoined (ps : List ℕ) (processes n q : ℕ) (entry : ℕ → Option ℕ) (joined : Option ℕ) : Type 0 where
  pub takes : IsTrue (has ps q) → joined ≡ Some n
  pub others : IsFalse (has ps q) → IsNewest ps processes entry joined

-- Marks that spread backwards along letters, from the accepting states on.
use Rattle.std.specs.Prelude.{◌≡◌, ℕ, ◌<◌, Bool, List, length, IsTrue, IsFalse}
use Rattle.za_dfa.specs.Automata.{Automaton}
use Rattle.za_min.specs.Live.{IsAlive, is_marked}

-- a letter leads from the state to a marked one
pub record LeadsOn (d : Automaton) (marks : List Bool) (q : ℕ) : Type 0 where
  pub by : ℕ
  pub letter : by < d.letters
  pub there : IsTrue (is_marked marks (d.step q by))

-- the state isn't marked, and a letter leads from it to a marked one
pub record IsNext (d : Automaton) (marks : List Bool) (q : ℕ) : Type 0 where
  pub state : q < d.states
  pub unmarked : IsFalse (is_marked marks q)
  pub on : LeadsOn d marks q

-- each state from which a letter leads to a marked one is marked
abbrev pub AreSpread : Automaton → List Bool → Type 0
AreSpread d marks = (q : ℕ) → q < d.states → LeadsOn d marks q → IsTrue (is_marked marks q)

-- accepting states are marked, and each marked state is alive
pub record AreSound (d : Automaton) (marks : List Bool) : Type 0 where
  pub one_each : length marks ≡ d.states
  pub accepting : (q : ℕ) → q < d.states → IsTrue (d.accepts q) → IsTrue (is_marked marks q)
  pub alive : (q : ℕ) → q < d.states → IsTrue (is_marked marks q) → IsAlive d q

-- States and words from which an accepted word can still be reached.
use Rattle.std.specs.Prelude.{◌≡◌, ℕ, ◌<◌, Bool, false, ◌↔◌, ◌++◌, List, length, slice_index_or, IsTrue}
use Rattle.za_alpha.specs.Words.{IsWord}
use Rattle.za_dfa.specs.Automata.{Automaton, walk, is_accepted}
use Rattle.za_min.specs.declared.live.Hope.{Hope}
use Rattle.za_min.specs.declared.live.Hope.TheVariants.{Alive, Dead}

-- the state is alive: some word leads from it to an accepting one
abbrev pub IsAlive : Automaton → ℕ → Type 0
IsAlive d q = (w : List ℕ) × IsWord d.letters w × IsTrue (d.accepts (walk d.step q w))

-- the word can still be accepted: it begins an accepted one
abbrev pub CanStillBeAccepted : Automaton → List ℕ → Type 0
CanStillBeAccepted d w = (v : List ℕ) × IsWord d.letters v × IsTrue (is_accepted d (w ++ v))

-- the hope at a state
abbrev pub IsHope : Automaton → ℕ → Hope → Type 0
IsHope d q Alive = IsAlive d q
IsHope d q Dead = ¬ IsAlive d q

-- whether state q is marked
abbrev pub is_marked : List Bool → ℕ → Bool
is_marked marks q = slice_index_or marks q false

-- there is a mark for each state, and it says whether the state is alive
pub record AreLive (d : Automaton) (marks : List Bool) : Type 0 where
  pub one_each : length marks ≡ d.states
  pub each : (q : ℕ) → q < d.states → (IsTrue (is_marked marks q) ↔ IsAlive d q)

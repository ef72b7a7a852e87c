-- A bench: local states that were put side by side.
use Rattle.std.specs.Prelude.{ℕ, List, [], ◌∷◌, map}
use Rattle.za_gossip.specs.Rows.{Rows}
use Rattle.za_residue.specs.Functions.{Functions}
use Rattle.za_local.specs.Locals.{LocalState}

-- what contracts see of a bench: the number of processes, which is how many local states there is room for, the number
-- of states, and the local states in their order
pub record LocalStates : Type 0 where
  pub processes : ℕ
  pub states : ℕ
  pub locals : List LocalState

-- no local states, for so many processes and states
abbrev pub none_of : ℕ → ℕ → LocalStates
none_of processes states = record { processes = processes; states = states; locals = [] }

-- the local states of these rows and residues, one of each
abbrev pub paired : List Rows → List Functions → List LocalState
paired [] residues = []
paired (g ∷ gossips) [] = []
paired (g ∷ gossips) (r ∷ residues) = record { gossip = g; residues = r } ∷ paired gossips residues

-- their rows and their residues
abbrev pub gossips_of : List LocalState → List Rows
gossips_of locals = map (λ (local : LocalState). local.gossip) locals

abbrev pub residues_of : List LocalState → List Functions
residues_of locals = map (λ (local : LocalState). local.residues) locals

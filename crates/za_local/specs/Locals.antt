-- The local state of a process of the distributed automaton: what it keeps of events, and of states (Zielonka 1987, in
-- the form of Mukund 2012).
use Rattle.std.specs.Prelude.{◌≡◌, ℕ, List, [], ◌∷◌, length, map}
use Rattle.std.specs.List.{range_with_len}
use Rattle.za_alpha.specs.Words.{IsWord}
use Rattle.za_alpha.specs.Alphabet.{loc_of}
use Rattle.za_order.specs.Views.{participants, in_view}
use Rattle.za_order.specs.Words.{subword}
use Rattle.za_dfa.specs.Automata.{Automaton, walk}
use Rattle.za_dfa.specs.Tables.{CompleteDfa, automaton_of, step_of}
use Rattle.za_gossip.specs.Rows.{Rows, rows_after}
use Rattle.za_residue.specs.Functions.{Functions}
use Rattle.za_residue.specs.Residues.{residues_after}

-- the numbers of the entries of a process, and its residues
pub record LocalState : Type 0 where
  pub gossip : Rows
  pub residues : Functions

-- the local state of p after the word, for letters with these participants and so many processes
abbrev pub local_state : (ℕ → List ℕ) → ℕ → Automaton → List ℕ → ℕ → LocalState
local_state loc processes d w p =
    record { gossip = rows_after loc processes w p; residues = residues_after loc processes d w p }

-- that over a table and its alphabet
abbrev pub local_after : CompleteDfa → List ℕ → ℕ → LocalState
local_after d w p = local_state (loc_of d.alphabet) d.alphabet.processes (automaton_of d) w p

-- the word is over the alphabet, and these are the local states of the processes xs after it, in their order
pub record AreLocalsAfter (d : CompleteDfa) (w xs : List ℕ) (given : List LocalState) : Type 0 where
  pub word : IsWord (length d.alphabet.letters) w
  pub locals : given ≡ map (local_after d w) xs

-- all processes in order
abbrev pub all_processes : CompleteDfa → List ℕ
all_processes d = range_with_len 0 d.alphabet.processes

-- the word is over the alphabet, and these are the local states of all processes after it, in order
abbrev pub AreAllLocalsAfter : CompleteDfa → List ℕ → List LocalState → Type 0
AreAllLocalsAfter d w given = AreLocalsAfter d w (all_processes d) given

-- the local state is for n processes and k states
pub record HasShape (n k : ℕ) (local : LocalState) : Type 0 where
  pub gossip : length local.gossip.primary ≡ n
  pub processes : local.residues.processes ≡ n
  pub states : local.residues.states ≡ k

-- it is for as many processes and states as the other
abbrev pub IsShapedAs : LocalState → LocalState → Type 0
IsShapedAs other local = HasShape (length other.gossip.primary) other.residues.states local

-- where the events lead from the start that p knows after the word
abbrev pub view_state_after : CompleteDfa → List ℕ → ℕ → ℕ
view_state_after d w p =
    let who = participants (loc_of d.alphabet) w in
    walk (step_of d) d.start (subword w (in_view who (length w) (p ∷ [])) (length w))

-- What contracts see of a table: the automaton and the scripts that it was opened on, the state of the core machine
-- that it is in, who has which letter in hand, and the local states of all processes, which they share with cached
-- transitions.
use Rattle.std.specs.Prelude.{◌≡◌, ℕ, List, [], Option, length}
use Rattle.za_alpha.specs.Words.{has}
use Rattle.za_alpha.specs.Search.{greatest}
use Rattle.za_alpha.specs.Alphabet.{loc_of}
use Rattle.za_order.specs.Views.{participants}
use Rattle.za_order.specs.Labels.{label}
use Rattle.za_dfa.specs.Tables.{CompleteDfa}
use Rattle.za_script.specs.ScriptLists.{script_of, FitAlphabet}
use Rattle.za_machine.specs.Machine.{Machine, State, IsMachineState}
use Rattle.za_machine.specs.Hands.{AreInHand}
use Rattle.za_local.specs.Locals.{AreAllLocalsAfter}
use Rattle.za_shared.specs.Records.{Records, AreRecords, locals_of}

-- the automaton and the scripts
pub record Given : Type 0 where
  pub dfa : CompleteDfa
  pub scripts : List (List ℕ)

-- the core machine of the automaton's alphabet and the scripts
abbrev pub machine_of : Given → Machine
machine_of g = record {
  letters = length g.dfa.alphabet.letters;
  processes = g.dfa.alphabet.processes;
  loc = loc_of g.dfa.alphabet;
  scripts = script_of g.scripts;
}

pub record TableState : Type 0 where
  pub given : Given
  pub state : State
  pub hands : List (Option ℕ)
  pub shared : Records

-- what holds of each table: the scripts fit, allowed events lead to its state, letters in hand are complete and in
-- hand of one of their processes, each process has its local state after the journal, the records are right, and none
-- is held by a call
pub record IsTable (t : TableState) : Type 0 where
  pub fit : FitAlphabet t.given.dfa.alphabet t.given.scripts
  pub reached : IsMachineState (machine_of t.given) t.state
  pub in_hand : AreInHand (machine_of t.given) t.state t.hands
  pub dfa : t.shared.dfa ≡ t.given.dfa
  pub locals : AreAllLocalsAfter t.given.dfa t.state.journal (locals_of t.shared)
  pub records : AreRecords t.shared
  pub free : t.shared.own ≡ []

-- the label of the event at a place of the word
abbrev pub label_at : CompleteDfa → List ℕ → ℕ → ℕ
label_at d w i = label (loc_of d.alphabet) d.alphabet.processes w i

-- the place of the latest event of the process, if it has one
abbrev pub last_event : Machine → List ℕ → ℕ → Option ℕ
last_event m w p = greatest (λ i. has (participants m.loc w i) p) (length w)

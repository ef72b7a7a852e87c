-- What contracts see of a table that is over.
use Rattle.za_alpha.specs.Alphabet.{loc_of}
use Rattle.za_dfa.specs.Tables.{automaton_of}
use Rattle.za_script.specs.declared.answer.Answer.{Answer}
use Rattle.za_script.specs.ScriptLists.{script_of}
use Rattle.za_script.specs.Answer.{IsAnswer}
use Rattle.za_machine.specs.Machine.{State, IsMachineState, IsOver}
use Rattle.za_machine.specs.Answer.{answer_at}
use Rattle.za_table.specs.Tables.{Given, machine_of}

pub record EndedState : Type 0 where
  pub given : Given
  pub state : State

-- allowed events lead to its state, and it is over
pub record IsEnded (e : EndedState) : Type 0 where
  pub reached : IsMachineState (machine_of e.given) e.state
  pub over : IsOver (machine_of e.given) e.state

-- what its endings and its journal say
abbrev pub answer_in : EndedState → Answer
answer_in e = answer_at (automaton_of e.given.dfa) e.state

-- that is the answer to its scripts, over all words that weave them
abbrev pub HasAnswer : EndedState → Type 0
HasAnswer e =
    IsAnswer (loc_of e.given.dfa.alphabet) (automaton_of e.given.dfa) (script_of e.given.scripts) (answer_in e)

-- What the fields of a table and of one that has ended are.
use Rattle.std.specs.Prelude.{◌≡◌, ℕ, ◌<◌, length, slice_index}
use Rattle.za_alpha.specs.Letters.{numbers}
use Rattle.za_dfa.specs.Tables.{automaton_of}
use Rattle.za_alpha.specs.Alphabet.{loc_of}
use Rattle.za_script.specs.ScriptLists.{script_of}
use Rattle.za_script.specs.Answer.{IsAnswer}
use Rattle.za_machine.specs.Machine.{State, fired_by}
use Rattle.za_machine.specs.Answer.{answer_at}
use Rattle.za_local.specs.Locals.{AreAllLocalsAfter}
use Rattle.za_shared.specs.Records.{locals_of}
use Rattle.za_table.specs.declared.table.Table.TheInside as Table
use Rattle.za_table.specs.declared.ended.Ended.TheInside as Ended
use Rattle.za_table.specs.Tables.{Given, TableState, IsTable, machine_of, label_at}
use Rattle.za_table.specs.Ends.{EndedState, IsEnded}
use Rattle.za_table.specs.Private.Steps.{IsProgress, AreAllMissing}

abbrev pub given_in : Table.Inside → Given
given_in t = record { dfa = t.shared.dfa; scripts = t.scripts }

abbrev pub state_in : Table.Inside → State
state_in t = record {
  journal = numbers t.progress.journal.items;
  arrived = t.progress.arrived.items;
  ended = t.progress.ended.items;
}

abbrev pub table_in : Table.Inside → TableState
table_in t = record { given = given_in t; state = state_in t; hands = t.hands.items; shared = t.shared }

pub record IsTableInside (t : Table.Inside) : Type 0 where
  pub table : IsTable (table_in t)
  pub progress : IsProgress (machine_of (given_in t)) t.progress
  pub missing : AreAllMissing (machine_of (given_in t)) (state_in t) t.missing.items

abbrev pub ended_in : Ended.Inside → EndedState
ended_in e = record {
  given = record { dfa = e.shared.dfa; scripts = e.scripts };
  state = record { journal = e.word; arrived = e.arrived.items; ended = e.ended.items };
}

-- the answer, the labels, the counts and the local states are those of the journal
pub record IsEndedInside (e : Ended.Inside) : Type 0 where
  pub over : IsEnded (ended_in e)
  pub answer : e.answer ≡ answer_at (automaton_of e.shared.dfa) (ended_in e).state
  pub correct : IsAnswer (loc_of e.shared.dfa.alphabet) (automaton_of e.shared.dfa) (script_of e.scripts) e.answer
  pub labels_size : length e.labels.items ≡ length e.word
  pub labels : (i : ℕ) → i < length e.word → slice_index e.labels.items i ≡ label_at e.shared.dfa e.word i
  pub counts_size : length e.counts.items ≡ e.shared.dfa.alphabet.processes
  pub counts : (p : ℕ) → p < e.shared.dfa.alphabet.processes →
      slice_index e.counts.items p ≡ fired_by (machine_of (ended_in e).given) e.word p
  pub locals : AreAllLocalsAfter e.shared.dfa e.word (locals_of e.shared)

-- What one process does at the table in one hold of the turn.
use Rattle.std.specs.Prelude.{◌≡◌, ℕ, true, false, Some, None, slice_set}
use Rattle.za_shared.specs.Records.{Records}
use Rattle.za_machine.specs.Machine.{Machine, next, is_complete, arrive, fire, end_at, IsAllowed, Arrive, End}
use Rattle.za_machine.specs.Hands.{hand}
use Rattle.za_table.specs.Tables.{TableState, machine_of}

-- the core machine of a table's automaton and scripts
abbrev pub machine : TableState → Machine
machine t = machine_of t.given

-- the process arrives
abbrev pub arrives : ℕ → TableState → TableState
arrives p t = record t { state = arrive p t.state }

-- the process ends
abbrev pub ends_script : ℕ → TableState → TableState
ends_script p t = record t { state = end_at p t.state }

-- the process takes the letter up
abbrev pub takes_up : ℕ → ℕ → TableState → TableState
takes_up a p t = record t { hands = slice_set t.hands a (Some p) }

-- the letter is fired and nobody has it in hand any more. The records are the table's own affair
abbrev pub settles : ℕ → Records → TableState → TableState
settles a records t = record t {
  state = fire (machine t).loc a t.state;
  hands = slice_set t.hands a None;
  shared = records;
}

-- what the process p makes of a table in one hold: nothing; an arrival that completes no letter; an arrival that
-- completes its letter, which is then taken up; the firing of the letter that it has in hand; its ending
pub data Own (p : ℕ) (t : TableState) : TableState → Type 0 where
  OwnNone : Own p t t
  OwnArrival :
      (a : ℕ) → IsAllowed (machine t) t.state (Arrive p) → next (machine t) t.state.journal p ≡ Some a →
      is_complete (machine t) (arrive p t.state) a ≡ false → Own p t (arrives p t)
  OwnTakeUp :
      (a : ℕ) → IsAllowed (machine t) t.state (Arrive p) → next (machine t) t.state.journal p ≡ Some a →
      is_complete (machine t) (arrive p t.state) a ≡ true → Own p t (takes_up a p (arrives p t))
  OwnFiring : (a : ℕ) (records : Records) → hand t.hands a ≡ Some p → Own p t (settles a records t)
  OwnEnding : IsAllowed (machine t) t.state (End p) → Own p t (ends_script p t)

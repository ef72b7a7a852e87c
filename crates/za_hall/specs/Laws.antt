-- The law of the rule, over the definitions alone: what one process does in one hold keeps what the rule says of
-- the table and of all views.
use Rattle.std.specs.Prelude.{◌≢◌, ℕ, ◌<◌}
use Rattle.za_machine.specs.Machine.{IsMachineState}
use Rattle.za_table.specs.Tables.{TableState}
use Rattle.za_hall.specs.Views.{Note}
use Rattle.za_hall.specs.Own.{machine, Own}
use Rattle.za_hall.specs.Rule.{IsFit, IsCovered, NoteOk}
use Rattle.za_hall.specs.Steps.{noted}

-- the table is in a state of the machine
abbrev pub OwnIsReached : Type 0
OwnIsReached =
    (p : ℕ) (t d : TableState) → IsFit (machine t) → IsCovered t → IsMachineState (machine t) t.state → Own p t d →
    IsMachineState (machine d) d.state

-- each complete letter is in hand of one of its processes, and no other
abbrev pub OwnIsCovered : Type 0
OwnIsCovered = (p : ℕ) (t d : TableState) → IsFit (machine t) → IsCovered t → Own p t d → IsCovered d

-- what is noted of any other process stays right
abbrev pub OwnKeepsOthers : Type 0
OwnKeepsOthers =
    (p : ℕ) (t d : TableState) → IsFit (machine t) → IsCovered t → IsMachineState (machine t) t.state → Own p t d →
    (n : Note) → n.number ≢ p → NoteOk t n → NoteOk d n

-- what the process itself notes of the new table is right
abbrev pub OwnIsNoted : Type 0
OwnIsNoted = (d : TableState) (n : Note) → IsCovered d → n.number < (machine d).processes → NoteOk d (noted d n)

use Rattle.std.proofs.Common.{◌≡◌, ◌<◌, ◌++◌, [], List, length, true, false}
use Rattle.std.specs.List.{Contains}
use Rattle.za_hall.specs.Answers.{note_of}
use Rattle.za_hall.specs.Halls.{DeskState}
use Rattle.za_hall.proofs.gathering.gather.Given as goal

-- the notes of the desks that are gone are with the seat
abbrev pub invariant-loop-desk : goal.invariant-loop-desk
invariant-loop-desk l = (gone : List DeskState) × (l.fn.desks.items ≡ l.desks.items ++ gone) × (0 < length gone)
    × ((d : DeskState) → Contains gone d → Contains l.seat.me.0.notes (note_of d.view))
    × ((d : DeskState) → Contains gone d → (note_of d.view).number ≡ d.number)
    × (l.seat.table_id ≡ l.board.shared.table_id) × (l.seat.me.0.holds ≡ false) × (l.seat.me.1 ≡ [])
    × ((d : DeskState) → Contains gone d → d.view.over ≡ true → l.seat.me.0.over ≡ true)

abbrev pub decreases-loop-desk : goal.decreases-loop-desk
decreases-loop-desk l = goal.left-loop-desk l

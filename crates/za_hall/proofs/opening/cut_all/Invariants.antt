use Rattle.std.proofs.Common.{◌≡◌, ◌+◌, ◌<◌, ◌≤◌, ℕ, length, false, vec_capacity, get_or}
use Rattle.za_hall.specs.Steps.{blank_notes}
use Rattle.za_hall.specs.Halls.{DeskState, IsNewDesk}
use Rattle.za_hall.specs.Private.Inside.{hall_of}
use Rattle.za_hall.proofs.opening.cut_all.Given as goal

abbrev pub invariant-loop-process : goal.invariant-loop-process
invariant-loop-process l = (length l.desks.items ≡ l.process) × (l.hall.processes ≤ vec_capacity l.desks) × (l.rest.table_id ≡ l.hall.board.shared.table_id)
    × (l.rest.me.0.given ≡ (hall_of l.hall).given)
    × ((n : ℕ) × (l.process + n ≡ l.hall.processes) × (l.rest.me.0.notes ≡ blank_notes l.process n)) × (l.rest.me.0.holds ≡ false) × (l.rest.me.0.over ≡ false)
    × ((p : ℕ) (d : DeskState) → p < length l.desks.items → IsNewDesk (hall_of l.hall) p (get_or l.desks.items p d))

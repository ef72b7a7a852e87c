use Rattle.std.proofs.Common.{◌≡◌, ◌<◌, ℕ, length, None}
use Rattle.za_machine.specs.Hands.{hand}
use Rattle.za_hall.proofs.gathering.free_letters.Given as goal

abbrev pub invariant-loop-a : goal.invariant-loop-a
invariant-loop-a l = (l.table.given ≡ l.fn.table.given) × (l.table.state ≡ l.fn.table.state) × (length l.table.hands ≡ length l.fn.table.hands)
    × ((b : ℕ) → b < l.a → hand l.table.hands b ≡ None)

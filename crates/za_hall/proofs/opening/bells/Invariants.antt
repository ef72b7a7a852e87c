use Rattle.std.proofs.Common.{◌≡◌, ◌≤◌, length, vec_capacity}
use Rattle.za_hall.proofs.opening.bells.Given as goal

abbrev pub invariant-loop : goal.invariant-loop
invariant-loop l = (length l.bells.items ≡ l.counter) × (l.count ≤ vec_capacity l.bells)

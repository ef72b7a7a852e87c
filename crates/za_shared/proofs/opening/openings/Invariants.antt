use Rattle.std.proofs.Common.{◌≡◌, ◌<◌, length, vec_capacity}
use Rattle.std.specs.List.{All}
use Rattle.za_local.specs.Locals.{HasShape}
use Rattle.za_shared.proofs.opening.openings.Given as goal

abbrev pub invariant-loop-i : goal.invariant-loop-i
invariant-loop-i l = record {
  count : length l.locals.items ≡ l.i;
  room : l.count < vec_capacity l.locals;
  shaped : All (HasShape l.closed.alphabet.processes l.closed.states) l.locals.items;
}

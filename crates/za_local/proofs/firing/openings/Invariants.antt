use Rattle.std.proofs.Common.{◌≡◌, [], map}
use Rattle.std.specs.List.{range_with_len}
use Rattle.za_local.specs.Locals.{local_after}
use Rattle.za_local.proofs.firing.openings.Given as goal

-- the opening local states so far
abbrev pub invariant-loop-p : goal.invariant-loop-p
invariant-loop-p l = l.locals.items ≡ map (local_after l.closed []) (range_with_len 0 l.p)

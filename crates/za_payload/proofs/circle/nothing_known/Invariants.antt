use Rattle.std.proofs.Common.{◌≡◌, replicate, None}
use Rattle.za_alpha.specs.Limits.{most_processes}
use Rattle.za_payload.proofs.circle.nothing_known.Given as goal

abbrev pub invariant-loop : goal.invariant-loop
invariant-loop l = l.known.items ≡ replicate l.counter (replicate most_processes None)

use Rattle.std.proofs.Common.{◌≡◌}
use Rattle.za_payload.specs.Circles.{IsCircle}
use Rattle.knowledge_tests.proofs.payload.try_events.Given as goal

abbrev pub invariant-loop-event : goal.invariant-loop-event
invariant-loop-event g l = record { circle : IsCircle l.alphabet l.circle; processes : l.circle.processes ≡ l.alphabet.processes }

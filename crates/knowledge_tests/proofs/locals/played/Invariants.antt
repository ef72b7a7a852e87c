use Rattle.std.proofs.Common.{◌≡◌}
use Rattle.za_local.specs.Locals.{AreAllLocalsAfter, HasShape}
use Rattle.knowledge_tests.proofs.locals.played.Given as goal

abbrev pub invariant-loop-letter : goal.invariant-loop-letter
invariant-loop-letter g l =
    AreAllLocalsAfter l.closed l.word l.locals.items × (l.bench.processes ≡ l.closed.alphabet.processes) × (l.bench.states ≡ l.closed.states)
    × HasShape l.closed.alphabet.processes l.closed.states l.fresh

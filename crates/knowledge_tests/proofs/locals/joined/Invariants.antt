use Rattle.std.proofs.Common.{◌≡◌, take}
use Rattle.knowledge_tests.proofs.locals.joined.Given as goal

-- the first are on the bench
abbrev pub invariant-loop-local : goal.invariant-loop-local
invariant-loop-local l = (l.bench.processes ≡ l.closed.alphabet.processes) × (l.bench.states ≡ l.closed.states) × (l.bench.locals ≡ take l.local-index l.locals)

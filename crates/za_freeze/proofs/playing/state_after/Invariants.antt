use Rattle.std.proofs.Common.{◌≡◌, take}
use Rattle.za_freeze.proofs.playing.state_after.Given as goal

-- the first are on the bench
abbrev pub invariant-loop-local : goal.invariant-loop-local
invariant-loop-local l = (l.bench.processes ≡ l.closed.alphabet.processes) × (l.bench.states ≡ l.closed.states) × (l.bench.locals ≡ take l.local-index l.locals)

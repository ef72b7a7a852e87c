use Rattle.std.proofs.Common.{◌≡◌, replicate}
use Rattle.callers.proofs.locals.after_first.Given as goal

abbrev pub invariant-loop : goal.invariant-loop
invariant-loop l = record {
  processes : l.bench.processes ≡ l.closed.alphabet.processes;
  states : l.bench.states ≡ l.closed.states;
  locals : l.bench.locals ≡ replicate l.counter l.local;
}

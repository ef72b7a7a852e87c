use Rattle.std.proofs.Common.{◌≡◌, take}
use Rattle.za_alpha.specs.Letters.{numbers}
use Rattle.za_local.specs.Locals.{AreAllLocalsAfter, HasShape}
use Rattle.za_freeze.proofs.playing.locals_after.Given as goal

-- the local states are those after the letters so far
abbrev pub invariant-loop-a : goal.invariant-loop-a
invariant-loop-a l = record {
  locals : AreAllLocalsAfter l.closed (numbers (take l.a-index l.letters)) l.locals.items;
  processes : l.bench.processes ≡ l.closed.alphabet.processes;
  states : l.bench.states ≡ l.closed.states;
  fresh : HasShape l.closed.alphabet.processes l.closed.states l.fresh;
}

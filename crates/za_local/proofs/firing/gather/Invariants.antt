use Rattle.za_local.proofs.Gathered.{AreGathered}
use Rattle.za_local.proofs.firing.gather.Given as goal

-- those of the participants so far are on the bench
abbrev pub invariant-loop-x : goal.invariant-loop-x
invariant-loop-x l = AreGathered l.closed l.participants l.fn.locals l.locals l.bench l.x

use Rattle.za_local.proofs.HandOut.{AreHandedOut}
use Rattle.za_local.proofs.firing.hand_out.Given as goal

-- the processes below x but for the least participant have their local states after the event
abbrev pub invariant-loop-x : goal.invariant-loop-x
invariant-loop-x l = AreHandedOut l.closed l.fn.a.0 l.fresh l.fn.locals l.least l.locals l.x

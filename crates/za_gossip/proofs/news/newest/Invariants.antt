use Rattle.za_gossip.proofs.Inputs.{IsBestSoFar}
use Rattle.za_gossip.proofs.news.newest.Given as goal

abbrev pub invariant-loop-y : goal.invariant-loop-y
invariant-loop-y l = IsBestSoFar l.alphabet l.fn.a.0 l.inputs l.r l.y l.newest

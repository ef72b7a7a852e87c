use Rattle.za_gossip.proofs.SourceLists.{AreSourcesBelow}
use Rattle.za_gossip.proofs.updating.set_sources.Given as goal

abbrev pub invariant-loop-q : goal.invariant-loop-q
invariant-loop-q l = AreSourcesBelow l.alphabet l.a.0 l.inputs l.sources l.q

use Rattle.za_dfa.specs.Tables.{automaton_of}
use Rattle.za_min.specs.Private.Spreading.{AreSound}
use Rattle.za_min.proofs.Spreading.{missing}
use Rattle.za_min.proofs.live.Live.of.Given as goal

abbrev pub invariant-spreading : goal.invariant-spreading
invariant-spreading l = AreSound (automaton_of l.dfa) l.marks.items

abbrev pub decreases-spreading : goal.decreases-spreading
decreases-spreading l = missing l.marks.items

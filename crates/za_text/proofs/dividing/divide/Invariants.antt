use Rattle.std.proofs.Common.{length}
use Rattle.za_text.proofs.DividingLemmas.{IsSearched}
use Rattle.za_text.proofs.dividing.divide.Given as goal

abbrev pub invariant-lines : goal.invariant-lines
invariant-lines g l = IsSearched (g.T.LineTest.passing l.fn.test) l.fn.bytes l.lines.rest l.len l.lines.passed

abbrev pub decreases-lines : goal.decreases-lines
decreases-lines g l = length l.lines.rest

use Rattle.std.proofs.Common.{length}
use Rattle.za_text.specs.Lines.{lines_of}
use Rattle.za_claim.specs.Claims.{AreClaimedEvents}
use Rattle.za_claim.specs.Private.Reading.{said_so_far}
use Rattle.za_claim.proofs.Saying.{IsReadSo}
use Rattle.za_claim.proofs.reading.read_claim.Given as goal

abbrev pub invariant-lines : goal.invariant-lines
invariant-lines l = record {
  whole : AreClaimedEvents l.alphabet l.reading.events.items;
  read : IsReadSo l.version l.alphabet l.fn.lines.passed l.lines.passed (lines_of l.fn.lines.rest) (lines_of l.lines.rest) (said_so_far l.reading);
}

abbrev pub decreases-lines : goal.decreases-lines
decreases-lines l = length l.lines.rest

use Rattle.std.proofs.Common.{sym, subst}
use Rattle.za_text.specs.Lines.{lines_of, raw}
use Rattle.za_claim.specs.Claims.{AreClaimedEvents}
use Rattle.za_claim.specs.Private.Reading.{said_so_far}
use Rattle.za_claim.proofs.Saying.{no-events, reads-first, reads-on}
use Rattle.za_claim.proofs.reading.read_claim.Goals as goal

pub lines-init : goal.lines-init
lines-init c =
    record {
      whole = subst (AreClaimedEvents c.args.alphabet.now) (sym c.new.ensures.items) (no-events c.args.alphabet.now);
      read = rw c.new.ensures.items (reads-first c.args.version c.args.alphabet.now c.args.lines.now.passed (lines_of c.args.lines.now.rest));
    }

pub lines-preserved : goal.lines-preserved
lines-preserved c =
    record {
      whole = c.in_default-take.ensures.whole;
      read =
          reads-on c.lines.invariant.read (raw c.in-Some.line) (lines_of c.next.new.self.rest) c.in-Some.ensures.first c.next.new.self.passed
          (said_so_far c.take.new.self)
          c.in-Some.ensures.passed c.in_default-take.ensures.taken.0 c.in_default-take.ensures.taken.1;
    }

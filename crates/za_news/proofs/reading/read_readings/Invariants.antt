use Rattle.std.proofs.Common.{length}
use Rattle.za_text.specs.Lines.{lines_of}
use Rattle.za_news.proofs.Lines.{IsReadSo}
use Rattle.za_news.proofs.reading.read_readings.Given as goal

abbrev pub invariant-lines : goal.invariant-lines
invariant-lines l =
    IsReadSo l.version l.names l.fn.lines.passed l.lines.passed (lines_of l.fn.lines.rest) (lines_of l.lines.rest) l.reading.place l.reading.readings

abbrev pub decreases-lines : goal.decreases-lines
decreases-lines l = length l.lines.rest

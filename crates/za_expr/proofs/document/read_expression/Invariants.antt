use Rattle.std.proofs.Common.{length, take}
use Rattle.za_text.specs.Lines.{lines_of}
use Rattle.za_lang.specs.Reading.{IsReading}
use Rattle.za_expr.specs.Documents.{said_with, tokens_in}
use Rattle.za_expr.specs.Private.Keeping.{KeepsWith}
use Rattle.za_expr.proofs.Faults.{AreRead}
use Rattle.za_expr.proofs.document.read_expression.Given as goal

abbrev pub invariant-lines : goal.invariant-lines
invariant-lines l = record {
  read : AreRead (lines_of l.bytes) l.lines.passed (lines_of l.lines.rest);
  whole : IsReading l.reading;
  shows : KeepsWith l.reading (said_with (take l.lines.passed (lines_of l.bytes))) (tokens_in (take l.lines.passed (lines_of l.bytes)));
}

abbrev pub decreases-lines : goal.decreases-lines
decreases-lines l = length l.lines.rest

use Rattle.std.proofs.Common.{length, take}
use Rattle.za_text.specs.Lines.{lines_of}
use Rattle.za_lang.specs.Documents.{said, version_of}
use Rattle.za_lang.specs.Reading.{IsReading, Keeps, Awaits}
use Rattle.za_lang.proofs.Faults.{AreRead}
use Rattle.za_lang.proofs.reading.read_job.Given as goal

abbrev pub invariant-lines : goal.invariant-lines
invariant-lines l = record {
  read : AreRead (version_of (lines_of l.bytes)) (lines_of l.bytes) l.lines.passed (lines_of l.lines.rest);
  whole : IsReading l.reading;
  shows : Keeps l.reading (said (version_of (lines_of l.bytes)) (take l.lines.passed (lines_of l.bytes)));
  awaits : Awaits l.reading (version_of (lines_of l.lines.rest)) (version_of (lines_of l.bytes));
}

abbrev pub decreases-lines : goal.decreases-lines
decreases-lines l = length l.lines.rest

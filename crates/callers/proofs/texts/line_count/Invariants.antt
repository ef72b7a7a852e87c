use Rattle.std.proofs.Common.{◌≡◌, ◌+◌, length}
use Rattle.za_text.specs.Lines.{lines_of}
use Rattle.callers.proofs.texts.line_count.Given as goal

abbrev pub invariant-lines : goal.invariant-lines
invariant-lines l = l.lines.passed + length (lines_of l.lines.rest) ≡ length (lines_of l.bytes)

abbrev pub decreases-lines : goal.decreases-lines
decreases-lines l = length l.lines.rest

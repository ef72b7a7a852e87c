use Rattle.std.proofs.Common.{◌≡◌, map}
use Rattle.std.specs.List.{range_with_len}
use Rattle.za_text.specs.Printed.{text_of}
use Rattle.za_report.specs.LocalStates.{local_line}
use Rattle.za_report.proofs.locals.locals_text.Given as goal

-- the lines of the processes so far
abbrev pub invariant-loop-p : goal.invariant-loop-p
invariant-loop-p l = l.text.items ≡ text_of (map (local_line l.closed l.ended.state.journal) (range_with_len 0 l.p))

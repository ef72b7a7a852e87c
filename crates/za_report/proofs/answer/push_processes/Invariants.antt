use Rattle.std.proofs.Common.{◌≡◌, ◌++◌, map}
use Rattle.std.specs.List.{range_with_len}
use Rattle.za_text.specs.Printed.{text_of}
use Rattle.za_report.specs.Texts.{process_line}
use Rattle.za_report.proofs.answer.push_processes.Given as goal

-- the lines of the processes so far
abbrev pub invariant-loop-p : goal.invariant-loop-p
invariant-loop-p l = l.text.items ≡ l.initial.text.items ++ text_of (map (process_line l.names l.alphabet l.scripts l.woven.word) (range_with_len 0 l.p))

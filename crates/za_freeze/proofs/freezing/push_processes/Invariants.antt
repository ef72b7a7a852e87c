use Rattle.std.proofs.Common.{◌≡◌, ◌++◌, map}
use Rattle.std.specs.List.{range_with_len}
use Rattle.za_alpha.specs.Letters.{numbers}
use Rattle.za_text.specs.Printed.{text_of}
use Rattle.za_freeze.specs.Frozen.{at_line}
use Rattle.za_freeze.proofs.freezing.push_processes.Given as goal

-- the lines of the processes so far
abbrev pub invariant-loop-p : goal.invariant-loop-p
invariant-loop-p l = l.text.items ≡ l.fn.text.items ++ text_of (map (at_line l.names l.closed (numbers l.letters)) (range_with_len 0 l.p))

use Rattle.std.proofs.Common.{◌≡◌, ◌++◌, map}
use Rattle.std.specs.List.{range_with_len}
use Rattle.za_text.specs.Printed.{text_of}
use Rattle.za_print.specs.Printed.{script_line}
use Rattle.za_print.proofs.print.push_scripts.Given as goal

-- the script lines of the processes so far
abbrev pub invariant-loop-p : goal.invariant-loop-p
invariant-loop-p l = l.text.items ≡ l.initial.text.items
    ++ text_of (map (script_line l.lang.naming l.lang.table.alphabet.letters l.scripts) (range_with_len 0 l.p))

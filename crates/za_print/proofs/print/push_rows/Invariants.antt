use Rattle.std.proofs.Common.{◌≡◌, ◌++◌, map}
use Rattle.std.specs.List.{filter_map, range_with_len}
use Rattle.za_text.specs.Printed.{text_of}
use Rattle.za_print.specs.Printed.{row_line, row_of_cell}
use Rattle.za_print.proofs.print.push_rows.Given as goal

-- the lines of the cells so far
abbrev pub invariant-loop-cell : goal.invariant-loop-cell
invariant-loop-cell l = l.text.items ≡ l.initial.text.items
    ++ text_of (map (row_line l.lang.table.alphabet.letters) (filter_map (row_of_cell l.lang.table) (range_with_len 0 l.cell)))

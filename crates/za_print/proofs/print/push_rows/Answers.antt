use Rattle.za_print.specs.Printed.{row_line, row_of_cell}
use Rattle.za_write.proofs.Lines.{one-more}
use Rattle.za_print.proofs.LineLemmas.{text_of-some-more}
use Rattle.za_print.proofs.print.push_rows.Goals as goal

pub loop-cell-preserved : goal.loop-cell-preserved
loop-cell-preserved c =
    one-more _ _ _ _ _ _ c.loop-cell.invariant c.in_ok-push_cell.ensures
    (text_of-some-more (row_line c.args.lang.now.table.alphabet.letters) (row_of_cell c.args.lang.now.table) c.loop-cell.cell)

use Rattle.za_print.specs.Printed.{script_line}
use Rattle.za_write.proofs.Lines.{one-more, text_of-more}
use Rattle.za_print.proofs.print.push_scripts.Goals as goal

pub loop-p-preserved : goal.loop-p-preserved
loop-p-preserved c = one-more _ _ _ _ _ _ c.loop-p.invariant c.in_ok-push_script.ensures
    (text_of-more (script_line c.args.lang.now.naming c.args.lang.now.table.alphabet.letters c.args.scripts.now) c.loop-p.p)

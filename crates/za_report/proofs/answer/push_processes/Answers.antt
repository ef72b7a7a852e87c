use Rattle.za_report.specs.Texts.{process_line}
use Rattle.za_write.proofs.Lines.{one-more, text_of-more}
use Rattle.za_report.proofs.answer.push_processes.Goals as goal

pub loop-p-preserved : goal.loop-p-preserved
loop-p-preserved c =
    let lines = text_of-more (process_line c.args.names.now c.args.alphabet.now c.args.scripts.now c.args.woven.now.word) c.loop-p.p in
    one-more _ _ _ _ _ _ c.loop-p.invariant c.in_ok-push_process.ensures lines

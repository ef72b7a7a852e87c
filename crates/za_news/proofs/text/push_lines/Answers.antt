use Rattle.std.proofs.Common.{◌∙◌, ◌++◌, ap}
use Rattle.za_text.specs.Printed.{line}
use Rattle.za_text.specs.ProcessNames.{name_of}
use Rattle.za_payload.specs.Circles.{known_in}
use Rattle.za_write.proofs.Lines.{one-more, text_of-more}
use Rattle.za_news.specs.Texts.{line_of_known}
use Rattle.za_news.proofs.text.push_lines.Goals as goal

pub loop-p-preserved : goal.loop-p-preserved
loop-p-preserved c =
    let names = c.args.names.now in
    let known = known_in c.args.circle.now.known in
    let n = c.args.processes in
    one-more _ _ _ _ _ _ c.loop-p.invariant
    (c.in_ok-push_line.ensures ∙ ap (λ name. c.loop-p.text.items ++ line (line_of_known name n (known c.loop-p.p))) c.of.ensures)
    (text_of-more (λ p. line_of_known (name_of names p) n (known p)) c.loop-p.p)

use Rattle.std.proofs.Common.{◌∙◌, ap}
use Rattle.za_news.specs.Grammar.{reading_end_fault}
use Rattle.za_news.proofs.Lines.{reads-end, says-all}
use Rattle.za_news.proofs.reading.read_readings.Goals as goal

pub returns-in-AfterEnd : goal.returns-in-AfterEnd
returns-in-AfterEnd c =
    let none = c.in_default-next.ensures.none in
    (reads-end c.lines.invariant none ∙ ap (λ p. reading_end_fault p c.lines.lines.passed) c.in-AfterEnd.is, says-all c.lines.invariant none)

use Rattle.std.proofs.Common.{◌^◌, ap, ◌∙◌}
use Rattle.za_ids.proofs.Numbers.{cube-product}
use Rattle.za_claim.proofs.line_tests.most_label.Goals as goal

pub returns-clause-value : goal.returns-clause-value
returns-clause-value c = cube-product c.processes-n.result ∙ ap (λ n. n ^ 3) c.processes-n.ensures.value

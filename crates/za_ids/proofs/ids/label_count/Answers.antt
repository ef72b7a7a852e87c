use Rattle.std.proofs.Common.{◌+◌, ap}
use Rattle.za_ids.proofs.Numbers.{cube-product}
use Rattle.za_ids.proofs.ids.label_count.Goals as goal

pub returns-clause-value : goal.returns-clause-value
returns-clause-value c = ap (λ m. m + 1) (cube-product c.args.n)

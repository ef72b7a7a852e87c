use Rattle.std.proofs.Common.{◌-◌, ◌%◌, Some, ap, ◌∙◌}
use Rattle.za_ids.proofs.Numbers.{number-label}
use Rattle.za_ids.proofs.ids.label_of.Goals as goal

pub returns-clause-inverse : goal.returns-clause-inverse
returns-clause-inverse c = λ a k l e.
    ap (λ x. Some x) (ap (λ m. (c.args.id.0 - 1) % m) c.label_count.ensures.value ∙ number-label c.args.n a k c.args.id.0 l e)

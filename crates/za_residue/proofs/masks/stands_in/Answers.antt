use Rattle.std.proofs.Common.{◌&&◌, not, sym, ap, ◌∙◌, ne_eqb}
use Rattle.za_alpha.specs.Words.{has}
use Rattle.za_ids.specs.Numbers.{event_numbers}
use Rattle.za_residue.proofs.Shared.{has-numbers}
use Rattle.za_residue.proofs.masks.stands_in.Goals as goal

pub returns-then-stands_at : goal.returns-then-stands_at
returns-then-stands_at c =
    c.if-stands_at.true
    ∙ sym (ap (λ b. not b && has (event_numbers c.args.row.now) c.args.id.0) (ne_eqb c.args.id.0 0 c.if-id-ne0.true)
    ∙ c.stands_at.ensures c.if-stands_at.true)

pub returns-else-stands_at : goal.returns-else-stands_at
returns-else-stands_at c =
    c.contains.ensures.value ∙ sym (has-numbers c.args.row.now c.args.id.0)
    ∙ sym (ap (λ b. not b && has (event_numbers c.args.row.now) c.args.id.0) (ne_eqb c.args.id.0 0 c.if-id-ne0.true))

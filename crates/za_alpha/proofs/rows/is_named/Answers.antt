use Rattle.std.proofs.Common.{◌∙◌}
use Rattle.za_alpha.proofs.Growing.{taken-map}
use Rattle.za_alpha.proofs.rows.is_named.Goals as goal

pub returns : goal.returns
returns c = c.is_some.ensures ∙ c.place_of_name.ensures.taken ∙ taken-map c.args.rows.now c.args.name.now

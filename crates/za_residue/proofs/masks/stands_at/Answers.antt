use Rattle.std.proofs.Common.{◌==◌, ◌∙◌}
use Rattle.std.proofs.lemmas.List.Folds.{list_any_at}
use Rattle.za_ids.specs.declared.ids.EventId.{EventId}
use Rattle.za_residue.proofs.Shared.{has-numbers}
use Rattle.za_residue.proofs.masks.stands_at.Goals as goal

pub returns-then-place-row : goal.returns-then-place-row
returns-then-place-row c = λ same.
    has-numbers c.args.row.now c.args.id.0
    ∙ list_any_at (λ (id : EventId). id.0 == c.args.id.0) c.args.row.now c.args.place (record { 0 = 0 }) c.if-place-row.true same

use Rattle.std.proofs.Common.{ℕ, Bool, false, not, ◌||◌, slice_index_or, ap, ◌∙◌}
use Rattle.std.proofs.lemmas.List.{get_or-replicate}
use Rattle.za_alpha.specs.Search.{least}
use Rattle.za_ids.specs.Limits.{most_labels}
use Rattle.za_views.specs.Private.Taken.{is_label_taken}
use Rattle.za_views.proofs.LeastPlaces.{least-same}
use Rattle.za_views.proofs.labels.free_label.Goals as goal

pub returns : goal.returns
returns c =
    let marks : ℕ → Bool = λ k. slice_index_or c.mark_taken.new.taken k false in
    let taken : ℕ → Bool = λ k. is_label_taken c.args.events.now c.args.processes c.args.letter.0 k 3 c.args.own in
    c.first_unmarked.ensures.value
    ∙ ap (λ m. least (λ k. not (marks k)) m) c.mark_taken.auto.taken
    ∙ least-same marks taken most_labels (λ k l. c.mark_taken.ensures k l ∙ ap (λ b. b || taken k) (get_or-replicate most_labels k false false l))

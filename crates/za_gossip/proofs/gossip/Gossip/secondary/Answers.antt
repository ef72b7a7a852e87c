use Rattle.std.proofs.Common.{◌≡◌, ℕ, ◌+◌, ◌-◌, ◌*◌, List, length, take, drop, sym, ap, ◌∙◌}
use Rattle.std.proofs.lemmas.List.{length-map}
use Rattle.za_ids.specs.declared.ids.EventId.{EventId}
use Rattle.za_ids.specs.Numbers.{event_numbers}
use Rattle.za_gossip.specs.Rows.{Rows, block_at}
use Rattle.za_gossip.proofs.Places.{block-numbers}
use Rattle.za_gossip.proofs.gossip.Gossip.secondary.Goals as goal

pub returns : goal.returns
returns c =
    let part : ℕ → List EventId → List ℕ = λ m xs. event_numbers (take ((c.args.q + 1) * m - c.args.q * m) (drop (c.args.q * m) xs)) in
    let row : Rows → List ℕ = λ r. block_at (length r.primary) r.secondary c.args.q in
    let size : length (event_numbers c.self.inside.primary.items) ≡ c.len-n.result = length-map c.self.inside.primary.items (λ (id : EventId). id.0)
    ∙ sym c.self.inside.primary.ok.0 ∙ sym c.len-n.ensures in
    ap (part c.len-n.result) c.deref.ensures.value
    ∙ block-numbers c.len-n.result c.self.inside.secondary.items c.args.q
    ∙ ap (λ m. block_at m (event_numbers c.self.inside.secondary.items) c.args.q) (sym size)
    ∙ ap row c.self.view_is

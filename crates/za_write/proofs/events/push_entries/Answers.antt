use Rattle.std.proofs.Common.{◌≡◌, ◌≤◌, ◌∙◌, length, subst, arith, rules}
use Rattle.std.proofs.lemmas.List.{length-map}
use Rattle.std.proofs.Math.ListN.{get_or-map}
use Rattle.za_order.specs.Labels.{label_bound}
use Rattle.za_ids.specs.declared.ids.EventId.{EventId}
use Rattle.za_write.proofs.Kept.{cut_back}
use Rattle.za_write.proofs.events.push_entries.Goals as goal

pub push_entry-requires : goal.push_entry-requires
push_entry-requires c =
    let ids = c.args.ids.now in
    let i = c.loop-id.id-index in
    let long = length-map ids (λ (id : EventId). id.0) in
    subst (λ v. v ≤ label_bound (length c.args.alphabet.now.letters) c.args.alphabet.now.processes)
    (get_or-map (λ (id : EventId). id.0) ids i (record { 0 = 0 })) (c.requires i 0 (omega arith))

pub returns-then-is_err-clause-err : goal.returns-then-is_err-clause-err
returns-then-is_err-clause-err c =
    let long : c.len-len.result ≡ length c.args.text.now.items = omega (arith, c.args.text.now.ok.0) in
    let kept : c.push_entry.new.text.items ≡ c.loop-id.text.items = search rules in
    c.truncate.ensures.items ∙ cut_back _ _ _ _ long (kept ∙ c.loop-id.invariant)

use Rattle.std.proofs.Common.{ℕ, ◌+◌, ◌%◌, ◌^◌, take, get_or, sym, ap, ◌∙◌, arith}
use Rattle.std.specs.List.{fold}
use Rattle.std.proofs.lemmas.List.{get_or-map, length-map}
use Rattle.std.proofs.lemmas.List.Sums.{fold_more}
use Rattle.za_ids.specs.declared.ids.EventId.{EventId}
use Rattle.za_ids.specs.Numbers.{event_numbers}
use Rattle.za_shared.proofs.marks.mark_of.Goals as goal

abbrev joined : ℕ → ℕ → ℕ
joined m id = (m + id) % 2 ^ 32

pub loop-i-preserved : goal.loop-i-preserved
loop-i-preserved c =
    let ids = c.primary-ids.result.now in
    let i : ℕ = c.loop-i.i in
    let t = c.loop-i-test.true in
    let long = length-map ids (λ (id : EventId). id.0) in
    ap (λ m. joined m (get_or ids i (record { 0 = 0 })).0) c.loop-i.invariant
    ∙ ap (joined (fold joined 0 (take i (event_numbers ids)))) (sym (get_or-map (λ (id : EventId). id.0) ids i (record { 0 = 0 }) 0 t))
    ∙ sym (fold_more joined 0 (event_numbers ids) i 0 (omega arith))

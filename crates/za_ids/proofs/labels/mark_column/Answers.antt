use Rattle.std.proofs.Common.{◌≡◌, ℕ, ◌+◌, ◌*◌, ◌<◌, length, get_or, slice_index, sym, ◌∙◌, arith}
use Rattle.std.proofs.lemmas.List.{get_or-map}
use Rattle.std.proofs.lemmas.Nat.{row_fits}
use Rattle.za_ids.specs.declared.ids.EventId.{EventId}
use Rattle.za_ids.specs.Numbers.{event_numbers}
use Rattle.za_ids.proofs.Columns.{marked-more}
use Rattle.za_ids.proofs.labels.mark_column.Goals as goal

within : (n i s : ℕ) → i < n * n → s < n → i * n + s < n * n * n
within n i s l m = let f = row_fits i n (n * n) n l (omega arith) in omega arith

pub loop-i-preserved : goal.loop-i-preserved
loop-i-preserved c =
    let ids = c.args.ids.now in
    let n : ℕ = c.args.n in
    let i : ℕ = c.loop-i.i in
    let s : ℕ = c.args.s in
    let t = c.loop-i-test.true in
    let column = c.requires.column in
    let size = c.requires.numbers in
    let row : i * n + s < n * n * n = within n i s t column in
    let at : slice_index (event_numbers ids) (i * n + s) ≡ (get_or ids (i * n + s) (record { 0 = 0 })).0 =
    get_or-map (λ (id : EventId). id.0) ids (i * n + s) (record { 0 = 0 }) 0 (omega arith) in
    let room : c.place_from.result < length c.loop-i.taken =
    let a = c.loop-i.invariant.size in let b = c.told-taken in let d = c.place_from.ensures.within in let e = c.requires.labels in omega arith in
    marked-more (event_numbers ids) n i s c.args.first.0 c.args.labels c.args.taken.now c.loop-i.taken c.place_from.result room
    (λ k l. let v = c.place_from.ensures.value k l in (λ e. at ∙ v.0 e, λ e. v.1 (sym at ∙ e))) c.loop-i.invariant

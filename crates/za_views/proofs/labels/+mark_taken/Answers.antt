use Rattle.std.proofs.Common.{ℕ, ◌-◌, ◌||◌, Bool, false, slice_index_or, sym, ap, ◌∙◌, arith}
use Rattle.std.specs.List.{range_with_len, list_any}
use Rattle.za_views.specs.Private.Events.{known}
use Rattle.za_views.specs.Private.Taken.{is_label_taken}
use Rattle.za_order.proofs.Ranges.{any-more}
use Rattle.za_views.proofs.Ranges.{or-assoc}
use Rattle.za_views.proofs.labels.+mark_taken.Goals as goal

pub loop-q-preserved : goal.loop-q-preserved
loop-q-preserved t c k l =
    let test : ℕ → Bool = λ q. is_label_taken c.args.events.now c.args.processes c.args.letter.0 k (c.args.steps - 1) (known c.args.events.now c.in-Some.e q) in
    let was : Bool = slice_index_or c.args.taken.now k false in
    let before = list_any test (range_with_len 0 c.loop-q.q) in
    c.mark_taken.ensures k (omega arith) ∙ ap (λ b. b || test c.loop-q.q) (c.loop-q.invariant k (omega arith))
    ∙ or-assoc was before (test c.loop-q.q) ∙ ap (λ b. was || b) (sym (any-more test c.loop-q.q))

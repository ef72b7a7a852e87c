use Rattle.std.proofs.Common.{◌++◌, ◌∷◌, [], map, sym, ap, ◌∙◌, arith}
use Rattle.std.specs.List.{range_with_len}
use Rattle.std.proofs.lemmas.List.FromFn.{map-range_with_len_more}
use Rattle.za_local.specs.Locals.{local_after}
use Rattle.za_local.proofs.firing.openings.Goals as goal

pub loop-p-preserved : goal.loop-p-preserved
loop-p-preserved c =
    let f = local_after c.args.closed.now [] in
    c.in_ok-push.ensures.items ∙ ap (λ xs. xs ++ c.in_ok-opening.field-0 ∷ []) c.loop-p.invariant
    ∙ ap (λ r. map f (range_with_len 0 c.loop-p.p) ++ r ∷ []) (c.in_ok-opening.ensures c.loop-p.p)
    ∙ sym (map-range_with_len_more f 0 c.loop-p.p c.loop-p.p (omega arith))

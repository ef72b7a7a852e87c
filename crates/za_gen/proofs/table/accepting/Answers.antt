use Rattle.std.proofs.Common.{ℕ, Bool, ◌==◌, ◌++◌, ◌∷◌, [], sym, ap, ◌∙◌, arith}
use Rattle.std.proofs.lemmas.List.FromFn.{map-range_with_len_more}
use Rattle.za_gen.proofs.table.accepting.Goals as goal

pub loop-q-preserved : goal.loop-q-preserved
loop-q-preserved c =
    let f : ℕ → Bool = λ q. q == c.args.reached in
    let q : ℕ = c.loop-q.q in
    c.in_ok-push.ensures.items ∙ ap (λ xs. xs ++ f q ∷ []) c.loop-q.invariant ∙ sym (map-range_with_len_more f 0 q q (omega arith))

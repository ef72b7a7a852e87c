use Rattle.std.proofs.Common.{◌≡◌, ℕ, ◌+◌, ◌/◌, ◌%◌, List, ◌++◌, ◌∷◌, [], map, sym, ap, ◌∙◌, arith}
use Rattle.std.specs.List.{range_with_len}
use Rattle.std.proofs.lemmas.List.FromFn.{map-range_with_len_more}
use Rattle.za_gen.specs.Generated.{next_state}
use Rattle.za_gen.proofs.table.targets.Goals as goal

abbrev target : ℕ → ℕ
target i = next_state (i / 8) (i % 8)

one-more : (xs : List ℕ) (x i : ℕ) → xs ≡ map target (range_with_len 0 i) → x ≡ target i → xs ++ x ∷ [] ≡ map target (range_with_len 0 (i + 1))
one-more xs x i all own = ap (λ ys. ys ++ x ∷ []) all ∙ ap (λ y. map target (range_with_len 0 i) ++ y ∷ []) own
    ∙ sym (map-range_with_len_more target 0 i i (omega arith))

pub loop-i-preserved : goal.loop-i-preserved
loop-i-preserved c = ◌∙◌ {A = List ℕ} c.in_ok-push.ensures.items (one-more c.loop-i.targets.items c.next_state.result c.loop-i.i c.loop-i.invariant
    c.next_state.ensures.value)

use Rattle.std.proofs.Common.{◌≡◌, ◌≢◌, ℕ, ◌+◌, ◌<◌, length, bit_or, get_or, ap, ◌∙◌, arith, below_more}
use Rattle.za_form.specs.Private.Numbers.{has_bit}
use Rattle.za_form.proofs.Joins.{Row, row_added, row_kept, other_row}
use Rattle.za_form.proofs.places.join.Goals as goal
use Rattle.za_form.proofs.places.join.Goals.{then-from-p-eq1, else-from-p-eq1}

pub loop-p-preserved : goal.loop-p-preserved
loop-p-preserved c =
    let old = c.args.rows.now in
    let now = c.loop-p.rows in
    let next = c.if-from-p-eq1.rows in
    let i = c.loop-p.p in
    let inv = c.loop-p.invariant in
    let l : i < length now = omega arith in
    elim c.if-from-p-eq1.branch [
      | then-from-p-eq1 w ↦
          let v = bit_or (get_or now i 0) c.args.to in
          let others : (p : ℕ) → p ≢ i → get_or next p 0 ≡ get_or now p 0 = λ p n. other_row now next i v p w.rows-is n in
          let step : (p : ℕ) → p < i + 1 → Row old next c.args.from c.args.to p =
          below_more (λ p. Row old next c.args.from c.args.to p) i
          (λ p k q. ap (λ x. has_bit x q) (others p (omega arith)) ∙ inv.done p q k)
          (row_added old now next c.args.from c.args.to i l w.if-from-p-eq1.true (inv.rest i (omega arith)) w.rows-is) in
          record { done = λ p q k. step p k q; rest = λ p k. others p (omega arith) ∙ inv.rest p (omega arith) }
      | else-from-p-eq1 w ↦
          let e : (p : ℕ) → get_or next p 0 ≡ get_or now p 0 = λ p. ap (λ x. get_or x p 0) w.rows-is in
          let step : (p : ℕ) → p < i + 1 → Row old next c.args.from c.args.to p =
          below_more (λ p. Row old next c.args.from c.args.to p) i
          (λ p k q. ap (λ x. has_bit x q) (e p) ∙ inv.done p q k)
          (row_kept old next c.args.from c.args.to i w.if-from-p-eq1.false (e i ∙ inv.rest i (omega arith))) in
          record { done = λ p q k. step p k q; rest = λ p k. e p ∙ inv.rest p (omega arith) }
    ]

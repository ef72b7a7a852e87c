use Rattle.std.proofs.Common.{◌≡◌, ℕ, suc, Bool, ◌&&◌, length, get_or, sym, ap, ◌∙◌, arith}
use Rattle.std.specs.List.{list_any, range_with_len}
use Rattle.za_form.specs.Private.Numbers.{has_bit}
use Rattle.za_form.proofs.Sets.{any_next, after_more, after_same, after_all}
use Rattle.za_form.proofs.steps.after.Goals as goal
use Rattle.za_form.proofs.steps.after.Goals.{then-m-p-eq1, else-m-p-eq1}

pub loop-p-preserved : goal.loop-p-preserved
loop-p-preserved c = λ q.
    let rows = c.args.rows.now in
    let m = c.args.m in
    let p = c.loop-p.p in
    let f : ℕ → Bool = λ (r : ℕ). has_bit m r && has_bit (get_or rows r 0) q in
    let rest = list_any f (range_with_len 0 p) in
    elim c.if-m-p-eq1.branch [
      | then-m-p-eq1 w ↦ ap (λ x. has_bit x q) w.all-is ∙
          (after_more c.loop-p.all m (get_or rows p 0) p q rest w.if-m-p-eq1.true (c.loop-p.invariant q) ∙ sym (any_next f p))
      | else-m-p-eq1 w ↦ ap (λ x. has_bit x q) w.all-is ∙
          (after_same c.loop-p.all m (get_or rows p 0) p q rest w.if-m-p-eq1.false (c.loop-p.invariant q) ∙ sym (any_next f p))
    ]

pub returns : goal.returns
returns c =
    let rows = c.args.rows.now in
    let m = c.args.m in
    let same = ap length c.signs.ensures.value in
    let all : c.loop-p.p ≡ suc (length c.args.form.now) = omega arith in
    after_all c.args.form.now rows m c.loop-p.all c.requires (λ q. c.loop-p.invariant q ∙
    ap (λ k. list_any (λ p. has_bit m p && has_bit (get_or rows p 0) q) (range_with_len 0 k)) all)

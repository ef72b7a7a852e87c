use Rattle.std.proofs.Common.{ℕ, false, not, length, get_or, arith}
use Rattle.std.proofs.lemmas.Bool.{not_from_false, not_from_true}
use Rattle.za_alpha.proofs.Least.{least-is, least-none}
use Rattle.za_ids.proofs.labels.first_unmarked.Goals as goal

pub returns-then-not-mark-clause-value : goal.returns-then-not-mark-clause-value
returns-then-not-mark-clause-value c =
    let marked = λ (k : ℕ). get_or c.args.marks.now k false in
    least-is (λ k. not (marked k)) (length c.args.marks.now) c.loop-k.k c.loop-k-test.true
    (λ j l. not_from_true (marked j) (c.loop-k.invariant j l)) (not_from_false (marked c.loop-k.k) c.if-not-mark.true)

pub returns-clause-value : goal.returns-clause-value
returns-clause-value c =
    let marked = λ (k : ℕ). get_or c.args.marks.now k false in
    least-none (λ k. not (marked k)) (length c.args.marks.now) (λ j l. not_from_true (marked j) (c.loop-k.invariant j (omega arith)))

use Rattle.std.proofs.Common.{◌+◌, ap, sym, ◌∙◌, arith}
use Rattle.za_freeze.proofs.FirstOther.{left_over, left-past, left-short, left-apart, left-feed, left-alike}
use Rattle.za_freeze.proofs.comparing.first_other.Goals as goal
use Rattle.za_freeze.proofs.comparing.first_other.Goals.{then-other-i-via-then-other-i, then-other-i-via-else-other-i+then-text-i, then-text-i-eq10}
use Rattle.za_freeze.proofs.comparing.first_other.Goals.{else-text-i-eq10}

pub returns-then-other-i : goal.returns-then-other-i
returns-then-other-i c =
    let text = c.args.text.now in
    let other = c.args.other.now in
    elim c.then-other-i.branch [
      | then-other-i-via-then-other-i w ↦ sym (c.loop-i.invariant.left ∙ left-past text other c.loop-i.line c.loop-i.i (omega arith) (omega arith))
      | then-other-i-via-else-other-i+then-text-i w ↦
          sym (c.loop-i.invariant.left ∙ left-apart text other c.loop-i.line c.loop-i.i (omega arith) (omega arith) w.if-text-i.true)
    ]

pub loop-i-preserved : goal.loop-i-preserved
loop-i-preserved c =
    let text = c.args.text.now in
    let other = c.args.other.now in
    let old = c.loop-i.invariant in
    let few = old.few in
    elim c.if-text-i-eq10.branch [
      | then-text-i-eq10 w ↦
          let is = w.line-is in
          record {
            few = omega arith;
            within = omega arith;
            left =
                old.left ∙ left-feed text other c.loop-i.line c.loop-i.i (omega arith) (omega arith) c.if-text-i.false w.if-text-i-eq10.true
                ∙ ap (λ n. left_over n (c.loop-i.i + 1) text other) (sym is);
          }
      | else-text-i-eq10 w ↦
          let is = w.line-is in
          record {
            few = omega arith;
            within = omega arith;
            left =
                old.left ∙ left-alike text other c.loop-i.line c.loop-i.i (omega arith) (omega arith) c.if-text-i.false w.if-text-i-eq10.false
                ∙ ap (λ n. left_over n (c.loop-i.i + 1) text other) (sym is);
          }
    ]

pub returns-then-text-other : goal.returns-then-text-other
returns-then-text-other c =
    sym (c.loop-i.invariant.left ∙ left-short c.args.text.now c.args.other.now c.loop-i.line c.loop-i.i (omega arith) (omega arith))

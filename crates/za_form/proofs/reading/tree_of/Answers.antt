use Rattle.std.proofs.Common.{◌≡◌, ◌+◌, ◌<◌, length, Some, get_or, sym, ap, ◌∙◌, arith}
use Rattle.za_expression.specs.declared.sign.Sign.TheVariants.{Name}
use Rattle.za_expression.specs.Private.Machine.{step as state_after, read_from, start}
use Rattle.za_form.specs.Private.Stacks.{stack_of, stack_option}
use Rattle.za_form.proofs.Below.{below}
use Rattle.za_form.proofs.Runs.{run_more}
use Rattle.za_form.proofs.reading.tree_of.Goals as goal

pub loop-sign-preserved : goal.loop-sign-preserved
loop-sign-preserved c =
    let ts = c.args.signs.now in
    let i = c.loop-sign.sign-index in
    let s = stack_of c.loop-sign.state in
    let next = stack_of c.in-Some.next in
    let t = get_or ts i (Name 0) in
    let h : state_after c.loop-sign.at s t ≡ Some next = sym c.in_ok-step.ensures ∙ ap stack_option c.in-Some.is in
    let l : i < length ts = omega arith in
    let p = c.loop-sign.invariant.place in
    record {
      place = omega arith;
      below = below (i + 1) c.loop-sign.at t s next c.loop-sign.invariant.below h;
      rest = run_more ts i c.loop-sign.at s next (Name 0) (read_from 1 start ts) l h c.loop-sign.invariant.rest;
    }

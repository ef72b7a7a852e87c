use Rattle.std.proofs.Common.{◌≡◌, ◌∙◌, ap, sym, arith, length}
use Rattle.za_alpha.specs.Procs.{members_below}
use Rattle.za_alpha.proofs.Members.{members_below-zero, length-members_below-more}
use Rattle.za_alpha.proofs.procs.Procs.count.Goals as goal

pub loop-p-init : goal.loop-p-init
loop-p-init c = record { small = omega arith; counted = sym (ap length (members_below-zero c.args.self)) }

pub loop-p-preserved : goal.loop-p-preserved
loop-p-preserved c = grind (arith, length-members_below-more)

pub returns : goal.returns
returns c =
    let all : c.loop-p.p ≡ 16 = omega arith in
    c.loop-p.invariant.counted ∙ ap (λ n. length (members_below c.args.self n)) all

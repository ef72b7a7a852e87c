use Rattle.std.proofs.Common.{[], sym, ap, subst}
use Rattle.za_local.specs.Locals.{AreAllLocalsAfter, HasShape}
use Rattle.za_local.specs.Benches.{LocalStates}
use Rattle.za_local.proofs.Shapes.{shape-after}
use Rattle.knowledge_tests.proofs.locals.played.Goals as goal

pub loop-letter-init : goal.loop-letter-init
loop-letter-init g c =
    let d = c.args.closed.now in (
      subst (λ w. AreAllLocalsAfter d w c.in_ok-locals.locals.items) (sym c.requires) c.in_ok-locals.ensures,
      ap (λ (b : LocalStates). b.processes) c.in_ok-bench.ensures,
      ap (λ (b : LocalStates). b.states) c.in_ok-bench.ensures,
      subst (HasShape d.alphabet.processes d.states) (sym (c.in_ok-fresh.ensures 0)) (shape-after d [] 0),
    )

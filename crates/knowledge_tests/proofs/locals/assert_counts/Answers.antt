use Rattle.std.proofs.Common.{[], sym, subst}
use Rattle.za_local.specs.Locals.{HasShape}
use Rattle.za_local.specs.Benches.{LocalStates}
use Rattle.za_local.proofs.Shapes.{shape-after}
use Rattle.knowledge_tests.proofs.locals.assert_counts.Goals as goal

pub add-requires-clause-shape : goal.add-requires-clause-shape
add-requires-clause-shape g c =
    let d = c.args.closed.now in
    let local = c.in_ok-local.local in
    subst (λ (b : LocalStates). HasShape b.processes b.states local) (sym c.in_ok-bench.ensures)
    (subst (HasShape d.alphabet.processes d.states) (sym (c.in_ok-local.ensures 0)) (shape-after d [] 0))

pub has-requires-clause-shape : goal.has-requires-clause-shape
has-requires-clause-shape g c =
    let d = c.args.closed.now in
    let local = c.in_ok-local.local in
    subst (λ (b : LocalStates). HasShape b.processes b.states local) (sym c.add.ensures)
    (subst (λ (b : LocalStates). HasShape b.processes b.states local) (sym c.in_ok-bench.ensures)
    (subst (HasShape d.alphabet.processes d.states) (sym (c.in_ok-local.ensures 0)) (shape-after d [] 0)))

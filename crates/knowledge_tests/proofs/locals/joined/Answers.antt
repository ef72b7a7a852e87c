use Rattle.std.proofs.Common.{length, sym, ap, subst, ◌∙◌, arith}
use Rattle.std.proofs.lemmas.List.{length-take-le}
use Rattle.za_local.specs.Locals.{HasShape}
use Rattle.za_local.proofs.Given.{locals-length, local-at}
use Rattle.za_local.proofs.Shapes.{shape-after}
use Rattle.knowledge_tests.proofs.locals.joined.Goals as goal

pub add-requires-clause-room : goal.add-requires-clause-room
add-requires-clause-room c =
    let k = c.loop-local.invariant in
    let long = locals-length c.args.closed.now c.requires.0 c.args.locals.now c.requires.1 in
    let t = c.loop-local-test.true in
    let first = ap length k.2 ∙ length-take-le c.loop-local.local-index c.args.locals.now (omega arith) in
    let n = k.0 in
    omega arith

pub add-requires-clause-shape : goal.add-requires-clause-shape
add-requires-clause-shape c =
    let d = c.args.closed.now in
    let k = c.loop-local.invariant in
    let w = c.requires.0 in
    let long = locals-length d w c.args.locals.now c.requires.1 in
    let t = c.loop-local-test.true in
    let is = c.local-item.is ∙ local-at d w c.args.locals.now c.requires.1 c.loop-local.local-index c.local-item.result (omega arith) in
    subst (λ m. HasShape m c.loop-local.bench.states c.local-item.result) (sym k.0)
    (subst (λ s. HasShape d.alphabet.processes s c.local-item.result) (sym k.1)
    (subst (HasShape d.alphabet.processes d.states) (sym is) (shape-after d w c.loop-local.local-index)))

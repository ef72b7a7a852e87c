use Rattle.std.proofs.Common.{sym, subst, ◌∙◌, arith}
use Rattle.za_local.specs.Locals.{HasShape}
use Rattle.za_local.proofs.Given.{locals-length, local-at}
use Rattle.za_local.proofs.Shapes.{shape-after}
use Rattle.knowledge_tests.proofs.locals.seen.Goals as goal

pub view_state-requires : goal.view_state-requires
view_state-requires c =
    let d = c.args.closed.now in
    let w = c.requires.locals.0 in
    let given = c.requires.locals.1 in
    let long = locals-length d w c.args.locals.now given in
    let p = c.requires.process in
    subst (HasShape d.alphabet.processes d.states)
    (sym (c.index-locals-p.is ∙ local-at d w c.args.locals.now given c.args.p c.index-locals-p.result (omega arith))) (shape-after d w c.args.p)

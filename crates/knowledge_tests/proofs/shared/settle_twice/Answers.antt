use Rattle.std.proofs.Common.{[], sym, ap, subst, ◌∙◌}
use Rattle.za_dfa.specs.Tables.{CompleteDfa}
use Rattle.za_local.specs.Locals.{HasShape, local_after}
use Rattle.za_local.proofs.Shapes.{shape-after}
use Rattle.za_shared.specs.Records.{IsTransition}
use Rattle.knowledge_tests.proofs.shared.settle_twice.Goals as goal

pub make-requires-clause-shape : goal.make-requires-clause-shape
make-requires-clause-shape g c =
    let d = c.args.shared.now.dfa in
    subst (HasShape d.alphabet.processes d.states) (sym (c.in_ok-made.ensures 0 ∙ ap (λ (x : CompleteDfa). local_after x [] 0) c.closed-2.ensures.value))
    (shape-after d [] 0)

pub verdict_after-second-requires-clause-made : goal.verdict_after-second-requires-clause-made
verdict_after-second-requires-clause-made g c =
    subst (λ (d : CompleteDfa). IsTransition d 0 c.make.new.bench.locals c.make.new.made) (sym c.verdict_after-first.ensures.dfa) c.make.ensures.made

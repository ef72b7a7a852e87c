use Rattle.std.proofs.Common.{◌≡◌, [], sym, ap, subst, ◌∙◌}
use Rattle.za_dfa.specs.Tables.{CompleteDfa}
use Rattle.za_local.specs.Locals.{LocalState, HasShape, local_after}
use Rattle.za_local.proofs.Shapes.{shape-after}
use Rattle.za_shared.specs.Records.{IsTransition}
use Rattle.za_table.specs.Tables.{TableState}
use Rattle.table_tests.proofs.table.take.Goals as goal

pub transit-requires-clause-shape : goal.transit-requires-clause-shape
transit-requires-clause-shape g c =
    let d = c.closed-5.result.now in
    let same : c.closed-2.result.now ≡ d = c.closed-2.ensures.value ∙ sym (ap (λ (t : TableState). t.given.dfa) c.take_up.ensures.rest) ∙ sym c.closed-5.ensures.value in
    subst (λ (l : LocalState). HasShape d.alphabet.processes d.states l) (sym (c.in_ok-made.ensures 0 ∙ ap (λ (e : CompleteDfa). local_after e [] 0) same)) (shape-after d [] 0)

pub returns-clause-made : goal.returns-clause-made
returns-clause-made g c = subst (λ (d : CompleteDfa). IsTransition d c.args.a.0 c.take_up.new.bench.locals c.transit.new.into) c.closed-5.ensures.value c.transit.ensures.local

use Rattle.std.proofs.Common.{ap, ◌∙◌}
use Rattle.za_local.specs.Locals.{local_after}
use Rattle.za_table.specs.Ends.{EndedState}
use Rattle.za_table.proofs.ended.Ended.local.Goals as goal

pub returns-clause-value : goal.returns-clause-value
returns-clause-value c = c.local.ensures.after c.self.inside.word c.self.invariant.locals ∙ ap
    (λ (x : EndedState). local_after x.given.dfa x.state.journal c.args.p) c.self.view_is

use Rattle.std.proofs.Common.{ap, ◌∙◌}
use Rattle.za_local.specs.Locals.{local_after}
use Rattle.za_table.specs.Tables.{TableState}
use Rattle.za_table.specs.Private.Inside.{state_in}
use Rattle.za_table.proofs.table.Table.local.Goals as goal

pub returns : goal.returns
returns c = c.local.ensures.after (state_in c.self.inside).journal c.self.invariant.table.locals ∙ ap
    (λ (x : TableState). local_after x.given.dfa x.state.journal c.args.p) c.self.view_is

use Rattle.std.proofs.Common.{ap}
use Rattle.za_table.specs.Tables.{TableState}
use Rattle.za_table.proofs.Weaving.{here-now}
use Rattle.za_table.proofs.table.Table.try_arrive.Goals as goal

pub returns-clause-here : goal.returns-clause-here
returns-clause-here c = λ l. here-now c.args.self.now c.arrive.new.self c.args.p c.closed-closed.ensures.table c.requires.inside
    (ap (λ (h : TableState). h.state) c.arrive.ensures.rest)

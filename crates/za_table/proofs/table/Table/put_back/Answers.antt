use Rattle.std.proofs.Common.{ap, ◌∙◌}
use Rattle.za_machine.specs.Hands.{hand}
use Rattle.za_table.specs.Tables.{TableState}
use Rattle.za_table.specs.Private.Inside.{table_in}
use Rattle.za_table.proofs.Keeping.{puts_back}
use Rattle.za_table.proofs.table.Table.put_back.Goals as goal

pub invariant_of-self : goal.invariant_of-self
invariant_of-self c =
    let ok = c.self.invariant in
    record {
      table = puts_back (table_in c.self.inside) ok.table c.args.a.0 c.requires.0
          (ap (λ (x : TableState). hand x.hands c.args.a.0) c.self.view_is ∙ c.requires.1);
      progress = ok.progress;
      missing = ok.missing;
    }

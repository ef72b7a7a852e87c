use Rattle.std.proofs.Common.{true, sym, subst, ◌∙◌, length-set}
use Rattle.za_machine.specs.Machine.{IsAllowed, End}
use Rattle.za_table.specs.Tables.{TableState, machine_of}
use Rattle.za_table.specs.Private.Inside.{given_in, table_in}
use Rattle.za_table.proofs.Keeping.{ends}
use Rattle.za_table.proofs.Progressing.{with-others}
use Rattle.za_table.proofs.table.Table.end.Goals as goal

pub invariant_of-self : goal.invariant_of-self
invariant_of-self c =
    let t = c.self.inside in
    let ok = c.self.invariant in
    record {
      table = ends (table_in t) ok.table c.args.p (subst (λ (x : TableState). IsAllowed (machine_of x.given) x.state (End c.args.p)) (sym c.self.view_is)
          c.requires);
      progress = with-others (machine_of (given_in t)) t.progress t.progress.arrived (Rattle.std.specs.Vec.with_item t.progress.ended c.args.p true)
          ok.progress ok.progress.arrived_size
          (length-set t.progress.ended.items c.args.p true ∙ ok.progress.ended_size);
      missing = record { size = ok.missing.size; each = ok.missing.each };
    }

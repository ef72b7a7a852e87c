use Rattle.std.proofs.Common.{ap, sym, ◌∙◌}
use Rattle.za_table.specs.Tables.{TableState}
use Rattle.za_table.proofs.Weaving.{used-up, mapped-none, gone-now}
use Rattle.za_table.proofs.table.Table.try_end.Goals as goal

pub end-requires : goal.end-requires
end-requires c = (
  c.requires.inside,
  sym c.ended.ensures ∙ c.if-ended.false,
  used-up c.args.self.now c.args.p c.closed-closed.ensures.table
      (sym c.next.ensures.value ∙ mapped-none c.next.result (sym c.is_some.ensures ∙ c.if-is_some.false)),
)

pub returns-clause-gone : goal.returns-clause-gone
returns-clause-gone c = λ l. gone-now c.args.self.now c.end.new.self c.args.p c.closed-closed.ensures.table c.requires.inside
    (ap (λ (h : TableState). h.state) c.end.ensures)

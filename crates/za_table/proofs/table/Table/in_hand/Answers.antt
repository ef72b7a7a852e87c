use Rattle.std.proofs.Common.{subst, ap, ◌∙◌}
use Rattle.za_machine.specs.Hands.{hand, IsInHand}
use Rattle.za_table.specs.Tables.{TableState, machine_of}
use Rattle.za_table.proofs.table.Table.in_hand.Goals as goal

pub returns-clause-complete : goal.returns-clause-complete
returns-clause-complete c = λ p e.
    subst (λ (x : TableState). IsInHand (machine_of x.given) x.state c.args.a.0 p) c.self.view_is
    (c.self.invariant.table.in_hand.each c.args.a.0 p (ap (λ (x : TableState). hand x.hands c.args.a.0) c.self.view_is ∙ e))

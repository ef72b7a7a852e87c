use Rattle.std.proofs.Common.{refl, sym, subst, arith}
use Rattle.za_hall.proofs.Least.{Inv, least_step}
use Rattle.za_hall.proofs.closing.least_waiting.Goals as goal

pub loop-desk-preserved : goal.loop-desk-preserved
loop-desk-preserved c = subst (Inv c.args.desks.now _) (sym c.lesser-least.ensures)
    (least_step c.args.desks.now c.loop-desk.desk-index c.desk-item.result (let t = c.loop-desk-test.true in
    omega arith) c.desk-item.is c.loop-desk.least c.loop-desk.invariant c.desk-item.result.view.over refl)

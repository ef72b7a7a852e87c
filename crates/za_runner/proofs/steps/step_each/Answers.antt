use Rattle.std.proofs.Common.{◌<◌, length, sym, ap, subst, ◌∙◌, arith, length-set}
use Rattle.std.proofs.lemmas.List.Elements.{All-set}
use Rattle.za_hall.specs.Halls.{DeskState}
use Rattle.za_hall.specs.Halls.{IsOf}
use Rattle.za_runner.proofs.Moves.{of_same, numbers_set}
use Rattle.za_runner.proofs.steps.step_each.Goals as goal

pub loop-i-preserved : goal.loop-i-preserved
loop-i-preserved c = let i = c.loop-i.invariant in let old : DeskState = c.index_mut.result.now in let s = c.try_step.ensures.desk in
    let inside : c.loop-i.i < length c.loop-i.desks.items = (let t = c.loop-i-test.true in let n = i.3 in omega arith) in
    let of : IsOf old c.args.hall.now = subst (λ (d : DeskState). IsOf d c.args.hall.now) (sym c.index_mut.ensures.value) (i.0 c.loop-i.i old inside) in (
      All-set (λ d. IsOf d c.args.hall.now) c.loop-i.desks.items c.loop-i.i c.try_step.new.self (of_same _ _ _ s of) i.0,
      numbers_set c.loop-i.desks.items c.loop-i.i old c.try_step.new.self inside (s.number ∙ ap (λ (d : DeskState). d.number) c.index_mut.ensures.value) ∙ i.1,
      i.2,
      length-set c.loop-i.desks.items c.loop-i.i c.try_step.new.self ∙ i.3,
    )

use Rattle.std.proofs.Common.{ℕ, ◌+◌, ◌<◌, ◌∷◌, [], List, length, sym, ap, ◌∙◌, subst, arith, length-append, get_or}
use Rattle.za_hall.specs.Steps.{blank_notes, other_notes}
use Rattle.za_hall.specs.Halls.{IsNewDesk}
use Rattle.za_hall.specs.Halls.{DeskState}
use Rattle.za_hall.specs.Views.{View}
use Rattle.za_hall.specs.Private.Inside.{hall_of}
use Rattle.za_local.specs.Locals.{HasShape}
use Rattle.za_local.proofs.Shapes.{shape-after}
use Rattle.za_hall.proofs.Desks.{fresh_snoc, blank_rest}
use Rattle.za_hall.proofs.opening.cut_all.Goals as goal

pub cut-requires-clause-next : goal.cut-requires-clause-next
cut-requires-clause-next c = let i = c.loop-process.invariant in let b = blank_rest c.loop-process.process i.4.0
    (let t = c.loop-process-test.true in let e = i.4.1 in omega arith) in
    (blank_notes (c.loop-process.process + 1) b.0, i.4.2 ∙ b.2)

pub loop-process-preserved : goal.loop-process-preserved
loop-process-preserved c = let k : ℕ = c.loop-process.process in let i = c.loop-process.invariant in
    let b = blank_rest k i.4.0 (let t = c.loop-process-test.true in let e = i.4.1 in omega arith) in
    let next = i.4.2 ∙ b.2 in
    let new = c.cut.ensures.rest.1 in
    let items = c.push_reserved.ensures.items in
    let P : List DeskState → Type 0 = λ ds. (p : ℕ) (d : DeskState) → p < length ds → IsNewDesk (hall_of c.args.hall.now) p (get_or ds p d) in (
      ap length items ∙ (length-append c.loop-process.desks.items (c.cut.result ∷ []) ∙ (let l = i.0 in omega arith)),
      (let e = c.push_reserved.ensures.capacity in let l = i.1 in omega arith),
      c.cut.ensures.rest.0 ∙ i.2,
      ap (λ (v : View). v.given) new ∙ i.3,
      (b.0, (let e = i.4.1 in let f = b.1 in omega arith), ap (λ (v : View). v.notes) new ∙ ap other_notes next),
      ap (λ (v : View). v.holds) new ∙ i.5,
      ap (λ (v : View). v.over) new ∙ i.6,
      subst P (sym items) (fresh_snoc (hall_of c.args.hall.now) c.loop-process.desks.items c.cut.result k i.0 i.7 c.cut.ensures.desk),
    )

pub cut-requires-clause-made : goal.cut-requires-clause-made
cut-requires-clause-made c = subst (HasShape c.args.hall.now.closed.alphabet.processes c.args.hall.now.closed.states) (sym (c.in_ok-made.ensures 0))
    (shape-after c.args.hall.now.closed [] 0)

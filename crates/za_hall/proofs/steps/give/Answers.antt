use Rattle.std.proofs.Common.{◌≡◌, sym, ap, ◌∙◌, arith, cond, Bool}
use Rattle.za_hall.proofs.Hands.{give_as}
use Rattle.za_hall.proofs.steps.give.Goals.{then-over, else-over}
use Rattle.za_hall.proofs.steps.give.Goals as goal

pub store-requires : goal.store-requires
store-requires c =
    let own = c.requires.own in
    let word : c.if-over.word ≡ cond c.args.over 2 0 = elim c.if-over.branch [
      | then-over w ↦ w.word-is ∙ sym
          (ap (λ (b : Bool). cond b 2 0) w.if-over.true)
      | else-over w ↦ w.word-is ∙ sym (ap (λ (b : Bool). cond b 2 0) w.if-over.false)
    ] in (
      c.requires.hall,
      (let s = c.args.hall.now.sized in omega arith),
      give_as _ _ _ c.args.seat.now.me own.0 own.1 c.args.over c.if-over.word c.requires.holds own.2 own.4 word own.5 own.3,
    )

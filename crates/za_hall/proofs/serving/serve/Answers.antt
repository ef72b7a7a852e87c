use Rattle.std.proofs.Common.{◌≡◌, ℕ, false, sym, ap, subst, ◌∙◌, inl}
use Rattle.std.proofs.lemmas.Option.{none-some}
use Rattle.za_machine.specs.Machine.{is_in}
use Rattle.za_table.specs.Tables.{TableState}
use Rattle.za_hall.specs.Own.{Own, OwnNone, OwnFiring}
use Rattle.za_hall.specs.Steps.{hand_of}
use Rattle.za_hall.specs.Private.Serving.{letter_number}
use Rattle.za_hall.specs.Answers.{IsLast}
use Rattle.za_hall.proofs.Events.{hand_none}
use Rattle.za_hall.proofs.Serves.{settled_is, is_here, is_away, not_ended, fired_last, out_of_hand}
use Rattle.za_hall.proofs.serving.serve.Goals as goal

pub returns-in-Some-clause-own : goal.returns-in-Some-clause-own
returns-in-Some-clause-own c = let t = c.args.table.now in let d = c.settle.new.self in let a = c.in-Some.held.0 in
    subst (Own c.args.process t) (sym (settled_is t d a c.settle.ensures.given c.settle.ensures.state c.settle.ensures.hands))
    (OwnFiring a d.shared (c.requires.held a (ap letter_number c.in-Some.is)))

pub returns-in-Some-clause-answer : goal.returns-in-Some-clause-answer
returns-in-Some-clause-answer c = let p = c.args.process in let t = c.args.table.now in let d = c.settle.new.self in let a = c.in-Some.held.0 in
    let mine = c.requires.held a (ap letter_number c.in-Some.is) in
    let is = settled_is t d a c.settle.ensures.given c.settle.ensures.state c.settle.ensures.hands in
    let P : ℕ → TableState → Type 0 = λ k u. IsLast p c.args.told k u × (is_in u.state.arrived p ≡ false) × (is_in u.state.ended p ≡ false) in
    subst (λ (z : ℕ × TableState). P z.0 z.1) (λ i. (sym c.settle.ensures.at i, sym is i)) (
      fired_last p t c.requires.fit c.requires.reached c.requires.covered c.requires.inside a c.args.told d.shared mine
          (c.requires.whole (inl (is_here p t c.requires.fit c.requires.reached c.requires.covered c.requires.inside a c.args.told d.shared mine))),
      is_away p t c.requires.fit c.requires.reached c.requires.covered c.requires.inside a c.args.told d.shared mine,
      not_ended p t c.requires.fit c.requires.reached c.requires.covered c.requires.inside a c.args.told d.shared mine,
    )

pub returns-in-Some-clause-hand : goal.returns-in-Some-clause-hand
returns-in-Some-clause-hand c = let p = c.args.process in let t = c.args.table.now in let d = c.settle.new.self in let a = c.in-Some.held.0 in
    ap (λ (u : TableState). hand_of u p) (settled_is t d a c.settle.ensures.given c.settle.ensures.state c.settle.ensures.hands)
    ∙ out_of_hand p t c.requires.fit c.requires.reached c.requires.covered c.requires.inside a c.args.told d.shared
    (c.requires.held a (ap letter_number c.in-Some.is))

pub returns-in-Some-untold-clause-own : goal.returns-in-Some-untold-clause-own
returns-in-Some-untold-clause-own c = OwnNone

pub returns-in-Some-untold-clause-hand : goal.returns-in-Some-untold-clause-hand
returns-in-Some-untold-clause-hand c = hand_none c.args.process c.args.table.now
    (λ a e. none-some a (sym (ap letter_number c.in_default.is) ∙ c.requires.free a e))

use Rattle.std.proofs.Common.{◌≡◌, ℕ, ◌<◌, true, false, length, sym, ap, subst, ◌∙◌, Some, None}
use Rattle.za_alpha.specs.Alphabet.{loc_of}
use Rattle.za_machine.specs.Machine.{is_in, fired_by, next, is_complete}
use Rattle.za_table.specs.Tables.{TableState}
use Rattle.za_hall.specs.Own.{machine, arrives, takes_up, Own, OwnNone, OwnArrival, OwnTakeUp, OwnEnding}
use Rattle.za_machine.specs.Hands.{hand, IsInHand}
use Rattle.za_local.specs.Locals.{AreLocalsAfter}
use Rattle.za_table.specs.Answers.{AreMissing}
use Rattle.za_hall.specs.Steps.{hand_of}
use Rattle.za_hall.specs.Answers.{Waits}
use Rattle.za_hall.proofs.Letters.{same_some}
use Rattle.za_hall.proofs.Events.{hand_none}
use Rattle.za_hall.proofs.Serves.{next_own, may_end, may_arrive, has_ended, waits_on, waits_short, no_hand, in_hand, found_in_hand}
use Rattle.za_hall.proofs.serving.arrive_or_end.Goals as goal

pub returns-then-ended-clause-own : goal.returns-then-ended-clause-own
returns-then-ended-clause-own c = OwnNone

pub returns-then-ended-clause-hand : goal.returns-then-ended-clause-hand
returns-then-ended-clause-hand c = hand_none c.args.process c.args.table.now c.requires.free

pub end-requires : goal.end-requires
end-requires c = may_end c.args.process c.args.table.now c.requires.fit c.requires.reached c.requires.covered c.requires.inside (sym c.if-ended.ensures)
    (sym c.in_default.ensures.value)

pub returns-in_default-clause-own : goal.returns-in_default-clause-own
returns-in_default-clause-own c = subst (Own c.args.process c.args.table.now) (sym c.end.ensures)
    (OwnEnding (may_end c.args.process c.args.table.now c.requires.fit c.requires.reached c.requires.covered c.requires.inside (sym c.if-ended.ensures)
    (sym c.in_default.ensures.value)))

pub returns-in_default-clause-answer : goal.returns-in_default-clause-answer
returns-in_default-clause-answer c = let P : TableState → Type 0 = λ t. (fired_by (machine t) t.state.journal c.args.process ≡ c.args.told) ×
    (is_in t.state.ended c.args.process ≡ true) in
    subst P (sym c.end.ensures) (
      c.requires.told,
      has_ended c.args.process c.args.table.now c.requires.fit c.requires.reached c.requires.covered c.requires.inside,
    )

pub returns-in_default-clause-hand : goal.returns-in_default-clause-hand
returns-in_default-clause-hand c = ap (λ (t : TableState). hand_of t c.args.process) c.end.ensures ∙ hand_none c.args.process c.args.table.now c.requires.free

pub missing-requires : goal.missing-requires
missing-requires c = (next_own c.args.process c.args.table.now c.requires.fit c.requires.reached c.requires.covered c.requires.inside c.in-Some.letter.0
    (sym c.in-Some.ensures.value)).0

pub returns-then-arrived-clause-own : goal.returns-then-arrived-clause-own
returns-then-arrived-clause-own c = OwnNone

pub returns-then-arrived-clause-answer : goal.returns-then-arrived-clause-answer
returns-then-arrived-clause-answer c = (
  c.requires.told,
  waits_on c.args.process c.args.table.now c.requires.fit c.requires.reached c.requires.covered c.requires.inside
      c.in-Some.letter.0 c.missing.result c.in_hand.result c.requires.free (sym c.if-arrived.ensures)
      (sym c.in-Some.ensures.value) c.missing.ensures.missing c.missing.ensures.none c.in_hand.ensures.value,
)

pub returns-then-arrived-clause-hand : goal.returns-then-arrived-clause-hand
returns-then-arrived-clause-hand c = hand_none c.args.process c.args.table.now c.requires.free

pub arrive-requires : goal.arrive-requires
arrive-requires c = may_arrive c.args.process c.args.table.now c.requires.fit c.requires.reached c.requires.covered c.requires.inside c.in-Some.letter.0
    (sym c.if-arrived.ensures) (sym c.in-Some.ensures.value)

-- the letter that is complete after the arrival is the next one
fresh : (p : ℕ) (t d : TableState) (a : ℕ) → d ≡ arrives p t → (next (machine d) d.state.journal p ≡ Some a) × (is_complete (machine d) d.state a ≡ true)
    → (next (machine t) t.state.journal p ≡ Some a) × (is_complete (machine (arrives p t)) (arrives p t).state a ≡ true)
fresh p t d a e k = let P : TableState → Type 0 = λ u. (next (machine u) u.state.journal p ≡ Some a) × (is_complete (machine u) u.state a ≡ true) in subst P e k

pub take_up-requires-clause-own : goal.take_up-requires-clause-own
take_up-requires-clause-own c = let p = c.args.process in let t = c.args.table.now in let a = c.in-Complete.letter.0 in
    let k = fresh p t c.arrive.new.self a c.arrive.ensures.rest c.in-Complete.ensures.answer in
    let o = next_own p t c.requires.fit c.requires.reached c.requires.covered c.requires.inside a k.0 in
    let P : TableState → Type 0 = λ u. IsInHand (machine u) u.state a p in
    subst P (sym c.arrive.ensures.rest) record { letter = o.0; complete = k.1; own = o.1 }

pub take_up-requires-clause-processes : goal.take_up-requires-clause-processes
take_up-requires-clause-processes c = c.requires.bench.0 ∙ ap (λ (u : TableState). u.given.dfa.alphabet.processes) (sym c.arrive.ensures.rest)

pub take_up-requires-clause-states : goal.take_up-requires-clause-states
take_up-requires-clause-states c = c.requires.bench.1 ∙ ap (λ (u : TableState). u.given.dfa.states) (sym c.arrive.ensures.rest)

pub take_up-requires-clause-free : goal.take_up-requires-clause-free
take_up-requires-clause-free c = let p = c.args.process in let t = c.args.table.now in let a = c.in-Complete.letter.0 in
    let k = fresh p t c.arrive.new.self a c.arrive.ensures.rest c.in-Complete.ensures.answer in
    ap (λ (u : TableState). hand u.hands a) c.arrive.ensures.rest ∙ no_hand p t c.requires.fit c.requires.reached c.requires.covered c.requires.inside a
    (sym c.if-arrived.ensures) k.0

pub returns-in-Complete-clause-own : goal.returns-in-Complete-clause-own
returns-in-Complete-clause-own c = let p = c.args.process in let t = c.args.table.now in let a = c.in-Complete.letter.0 in
    let k = fresh p t c.arrive.new.self a c.arrive.ensures.rest c.in-Complete.ensures.answer in
    subst (Own p t) (sym (c.take_up.ensures.rest ∙ ap (takes_up a p) c.arrive.ensures.rest))
    (OwnTakeUp a (may_arrive p t c.requires.fit c.requires.reached c.requires.covered c.requires.inside a (sym c.if-arrived.ensures) k.0) k.0 k.1)

pub returns-in-Complete-clause-answer : goal.returns-in-Complete-clause-answer
returns-in-Complete-clause-answer c = let p = c.args.process in let t = c.args.table.now in let a = c.in-Complete.letter.0 in
    let k = fresh p t c.arrive.new.self a c.arrive.ensures.rest c.in-Complete.ensures.answer in
    let P : TableState → Type 0 = λ u. (fired_by (machine u) u.state.journal p ≡ c.args.told) × (hand u.hands a ≡ Some p) in
    subst P (sym (c.take_up.ensures.rest ∙ ap (takes_up a p) c.arrive.ensures.rest)) (
      c.requires.told,
      in_hand p t c.requires.fit c.requires.reached c.requires.covered c.requires.inside a k.0,
    )

pub returns-in-Complete-clause-hand : goal.returns-in-Complete-clause-hand
returns-in-Complete-clause-hand c = let p = c.args.process in let t = c.args.table.now in let a = c.in-Complete.letter.0 in
    let k = fresh p t c.arrive.new.self a c.arrive.ensures.rest c.in-Complete.ensures.answer in
    ap (λ (u : TableState). hand_of u p) (c.take_up.ensures.rest ∙ ap (takes_up a p) c.arrive.ensures.rest)
    ∙ found_in_hand p t c.requires.fit c.requires.reached c.requires.covered c.requires.inside a (sym c.if-arrived.ensures) k.0 k.1

pub returns-in-Complete-clause-taken : goal.returns-in-Complete-clause-taken
returns-in-Complete-clause-taken c b e = let p = c.args.process in let t = c.args.table.now in let a = c.in-Complete.letter.0 in
    let k = fresh p t c.arrive.new.self a c.arrive.ensures.rest c.in-Complete.ensures.answer in
    let P : ℕ → TableState → Type 0 = λ x u. (x < length t.given.dfa.alphabet.letters) × AreLocalsAfter u.given.dfa u.state.journal
    (loc_of u.given.dfa.alphabet x) c.take_up.new.bench.locals in
    let Q : TableState → Type 0 = λ u. AreLocalsAfter u.given.dfa u.state.journal (loc_of u.given.dfa.alphabet a) c.take_up.new.bench.locals in
    subst (λ (x : ℕ). P x t) (same_some a b e)
    ((next_own p t c.requires.fit c.requires.reached c.requires.covered c.requires.inside a k.0).0, subst Q c.arrive.ensures.rest c.take_up.ensures.locals)

pub returns-in-Short-clause-own : goal.returns-in-Short-clause-own
returns-in-Short-clause-own c = let p = c.args.process in let t = c.args.table.now in let a = c.in-Short.letter.0 in let s = c.in-Short.ensures.answer in
    let P : TableState → Type 0 = λ u. (next (machine u) u.state.journal p ≡ Some a) × (is_complete (machine u) u.state a ≡ false) in
    let k = subst P c.arrive.ensures.rest (s.0, s.1) in
    subst (Own p t) (sym c.arrive.ensures.rest)
    (OwnArrival a (may_arrive p t c.requires.fit c.requires.reached c.requires.covered c.requires.inside a (sym c.if-arrived.ensures) k.0) k.0 k.1)

pub returns-in-Short-clause-answer : goal.returns-in-Short-clause-answer
returns-in-Short-clause-answer c = let p = c.args.process in let t = c.args.table.now in let a = c.in-Short.letter.0 in let s = c.in-Short.ensures.answer in
    let P : TableState → Type 0 = λ u. (next (machine u) u.state.journal p ≡ Some a) × AreMissing (machine u) u.state a c.in-Short.missing in
    let k = subst P c.arrive.ensures.rest (s.0, s.2) in
    let Q : TableState → Type 0 = λ u. (fired_by (machine u) u.state.journal p ≡ c.args.told) × Waits p a c.in-Short.missing None u in
    subst Q (sym c.arrive.ensures.rest) (
      c.requires.told,
      waits_short p t c.requires.fit c.requires.reached c.requires.covered c.requires.inside a c.in-Short.missing (sym c.if-arrived.ensures) k.0 k.1 s.3,
    )

pub returns-in-Short-clause-hand : goal.returns-in-Short-clause-hand
returns-in-Short-clause-hand c = ap (λ (u : TableState). hand_of u c.args.process) c.arrive.ensures.rest ∙ hand_none c.args.process
    (arrives c.args.process c.args.table.now) c.requires.free

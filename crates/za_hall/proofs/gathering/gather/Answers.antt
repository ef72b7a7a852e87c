use Rattle.std.proofs.Common.{map, ◌≡◌, ◌⊎◌, ℕ, ◌+◌, ◌<◌, ◌∷◌, ◌++◌, [], List, length, get_or, sym, ap, ◌∙◌, subst, refl, arith, length-append}
use Rattle.std.proofs.Common.{append_assoc, true, false, Bool, cond, ⊎_elim, Option, Some, None}
use Rattle.std.specs.List.{Contains}
use Rattle.std.specs.Option.{IsSome}
use Rattle.std.proofs.lemmas.List.Elements.{Contains-append_left, Contains-append_right, Contains-append_cases, All-contains, All-contains_itself}
use Rattle.za_machine.specs.Machine.{IsOver, IsMachineState}
use Rattle.za_hall.specs.Own.{machine}
use Rattle.za_hall.specs.Rule.{Hand, Slot, EachNote, NoteOk, IsCovered}
use Rattle.za_hall.specs.Views.{View, Note}
use Rattle.za_hall.specs.Answers.{note_of, first_note}
use Rattle.za_hall.specs.Halls.{DeskState, IsOf}
use Rattle.za_hall.specs.Private.Serving.{note_number}
use Rattle.za_hall.specs.Private.Inside.{hall_of}
use Rattle.za_hall.proofs.Told.{one_note}
use Rattle.za_hall.proofs.Seats.{joins}
use Rattle.za_hall.proofs.Closes.{all_numbers, gathered, is_it, has_all, all_notes, in_gone, first_in, some_note}
use Rattle.za_hall.proofs.gathering.gather.Goals as goal

-- the only one of a list of one
alone : (x d : DeskState) → Contains (x ∷ []) d → x ≡ d
alone x d (Rattle.std.proofs.Common.zero, lt, e) = e
alone x d (Rattle.std.proofs.Common.suc k, lt, e) = let h = lt in absurd (omega arith)

over_left : (x y : Bool) → x ≡ true → cond x true y ≡ true
over_left true y e = refl
over_left false y e = cc

over_right : (x y : Bool) → y ≡ true → cond x true y ≡ true
over_right true y e = refl
over_right false y e = e

-- the number of a seat's one note
number_is : (v w : View) (p : ℕ) → v ≡ w → map note_number v.notes ≡ p ∷ [] → (note_of w).number ≡ p
number_is v w p e n = let o = one_note v.notes p n in ap (λ (u : View). (note_of u).number) (sym e) ∙ (ap (λ ns. (first_note ns).number) o.1 ∙ o.2)

-- and it is among the notes
note_in : (v w : View) (p : ℕ) → v ≡ w → map note_number v.notes ≡ p ∷ [] → Contains v.notes (note_of w)
note_in v w p e n = subst (λ (u : View). Contains v.notes (note_of u)) e (first_in v.notes p n)

pub loop-desk-init : goal.loop-desk-init
loop-desk-init c = let d : DeskState = c.in-Some.first in let s = c.seat_of-seat.ensures in (
  d ∷ [],
  c.in-Some.ensures.items,
  omega arith,
  λ x h. subst (λ (y : DeskState). Contains c.seat_of-seat.result.me.0.notes (note_of y.view)) (alone d x h)
      (note_in c.seat_of-seat.result.me.0 d.view d.number s.view s.number),
  λ x h. subst (λ (y : DeskState). (note_of y.view).number ≡ y.number) (alone d x h) (number_is c.seat_of-seat.result.me.0 d.view d.number s.view s.number),
  s.name ∙ (All-contains (λ x. IsOf x (hall_of c.args.hall)) c.args.desks.items d c.requires.of
      (subst (λ ds. Contains ds d) (sym c.in-Some.ensures.items) (Contains-append_right c.pop.new.self.items (d ∷ []) d (0, omega arith, refl)))).name,
  s.free.0,
  s.free.1,
  λ x h e. ap (λ (v : View). v.over) s.view ∙ (ap (λ (y : DeskState). y.view.over) (alone d x h) ∙ e),
)

pub join_seat-requires : goal.join_seat-requires
join_seat-requires c =
    let i = c.loop-desk.invariant in let d : DeskState = c.in-Some-pop.desk in let s = c.args.hall.sized in let t = c.seat_of.ensures in
    let items : c.loop-desk.desks.items ≡ c.pop-in-loop-desk.new.self.items ++ d ∷ [] = c.in-Some-pop.ensures.items in
    let in_all : Contains c.args.desks.items d = subst (λ ds. Contains ds d) (sym i.1) (Contains-append_left c.loop-desk.desks.items i.0 d
    (subst (λ ds. Contains ds d) (sym items) (Contains-append_right c.pop-in-loop-desk.new.self.items (d ∷ []) d (0, omega arith, refl)))) in
    let first : DeskState = get_or i.0 0 d in
    let n = some_note c.loop-desk.seat.me.0.notes (note_of first.view) (i.3 first (All-contains_itself i.0 0 d i.2)) in (
      i.5,
      t.name ∙ (All-contains (λ x. IsOf x (hall_of c.args.hall)) c.args.desks.items d c.requires.of in_all).name,
      t.free.1,
      (let e = s.0 in omega arith),
      joins _ _ c.loop-desk.seat.me.0 n.0 n.1.0 _ c.seat_of.result.me.0 n.1.1 i.6 t.free.0,
    )

pub loop-desk-preserved : goal.loop-desk-preserved
loop-desk-preserved c =
    let i = c.loop-desk.invariant in let d : DeskState = c.in-Some-pop.desk in let t = c.seat_of.ensures in
    let items : c.loop-desk.desks.items ≡ c.pop-in-loop-desk.new.self.items ++ d ∷ [] = c.in-Some-pop.ensures.items in
    let now = c.join_seat.ensures.2 in
    let other : View = c.seat_of.result.me.0 in
    let notes = ap (λ (m : Hand). m.0.notes) now in
    let P : DeskState → List Note → Type 0 = λ x ns. Contains ns (note_of x.view) in (
      d ∷ i.0,
      i.1 ∙ (ap (λ xs. xs ++ i.0) items ∙ append_assoc c.pop-in-loop-desk.new.self.items (d ∷ []) i.0),
      (let l = i.2 in omega arith),
      λ x h. subst (P x) (sym notes) (⊎_elim
          (λ one. subst (λ (y : DeskState). Contains (c.loop-desk.seat.me.0.notes ++ other.notes) (note_of y.view)) (alone d x one)
          (Contains-append_right c.loop-desk.seat.me.0.notes other.notes (note_of d.view) (note_in other d.view d.number t.view t.number)))
          (λ old. Contains-append_left c.loop-desk.seat.me.0.notes other.notes (note_of x.view) (i.3 x old))
          (Contains-append_cases (d ∷ []) i.0 x h)),
      λ x h. ⊎_elim
          (λ one. subst (λ (y : DeskState). (note_of y.view).number ≡ y.number) (alone d x one) (number_is other d.view d.number t.view t.number))
          (λ old. i.4 x old)
          (Contains-append_cases (d ∷ []) i.0 x h),
      c.join_seat.ensures.0 ∙ i.5,
      ap (λ (m : Hand). m.0.holds) now ∙ i.6,
      ap (λ (m : Hand). m.1) now ∙ i.7,
      λ x h e. ap (λ (m : Hand). m.0.over) now ∙ ⊎_elim
          (λ one. over_right c.loop-desk.seat.me.0.over other.over (ap (λ (v : View). v.over) t.view
          ∙ (ap (λ (y : DeskState). y.view.over) (alone d x one) ∙ e)))
          (λ old. over_left c.loop-desk.seat.me.0.over other.over (i.8 x old e))
          (Contains-append_cases (d ∷ []) i.0 x h),
    )

pub unwrap-requires : goal.unwrap-requires
unwrap-requires c = let k = gathered _ _ _ _ _ c.close_with-closed.ensures.values.2 c.loop-desk.invariant.6
    (has_all c.args.desks.items c.loop-desk.desks.items c.loop-desk.invariant.0 c.loop-desk.invariant.1 (let z = c.in_default-pop.ensures.cases.0 in
    omega arith) c.loop-desk.seat.me.0.notes c.loop-desk.invariant.3 c.loop-desk.invariant.4 _ c.requires.all) c.take-slot.result c.take-slot.ensures.value in
    subst (λ (o : Slot). IsSome o) (sym k.1) refl

pub returns-clause-job : goal.returns-clause-job
returns-clause-job c = let k = gathered _ _ _ _ _ c.close_with-closed.ensures.values.2 c.loop-desk.invariant.6
    (has_all c.args.desks.items c.loop-desk.desks.items c.loop-desk.invariant.0 c.loop-desk.invariant.1 (let z = c.in_default-pop.ensures.cases.0 in
    omega arith) c.loop-desk.seat.me.0.notes c.loop-desk.invariant.3 c.loop-desk.invariant.4 _ c.requires.all) c.take-slot.result c.take-slot.ensures.value in
    is_it (λ t. t.given ≡ (hall_of c.args.hall).given) c.take-slot.result k.0 c.unwrap.result k.1 c.unwrap.ensures k.2

pub returns-clause-reached : goal.returns-clause-reached
returns-clause-reached c = let k = gathered _ _ _ _ _ c.close_with-closed.ensures.values.2 c.loop-desk.invariant.6
    (has_all c.args.desks.items c.loop-desk.desks.items c.loop-desk.invariant.0 c.loop-desk.invariant.1 (let z = c.in_default-pop.ensures.cases.0 in
    omega arith) c.loop-desk.seat.me.0.notes c.loop-desk.invariant.3 c.loop-desk.invariant.4 _ c.requires.all) c.take-slot.result c.take-slot.ensures.value in
    is_it (λ t. IsMachineState (machine t) t.state) c.take-slot.result k.0 c.unwrap.result k.1 c.unwrap.ensures k.3

pub returns-clause-covered : goal.returns-clause-covered
returns-clause-covered c = let k = gathered _ _ _ _ _ c.close_with-closed.ensures.values.2 c.loop-desk.invariant.6
    (has_all c.args.desks.items c.loop-desk.desks.items c.loop-desk.invariant.0 c.loop-desk.invariant.1 (let z = c.in_default-pop.ensures.cases.0 in
    omega arith) c.loop-desk.seat.me.0.notes c.loop-desk.invariant.3 c.loop-desk.invariant.4 _ c.requires.all) c.take-slot.result c.take-slot.ensures.value in
    is_it (λ t. IsCovered t) c.take-slot.result k.0 c.unwrap.result k.1 c.unwrap.ensures k.4

pub returns-clause-numbers : goal.returns-clause-numbers
returns-clause-numbers c = all_numbers c.args.desks.items c.loop-desk.desks.items c.loop-desk.invariant.0 c.loop-desk.invariant.1 (let z =
    c.in_default-pop.ensures.cases.0 in omega arith) c.loop-desk.invariant.4

pub returns-clause-notes : goal.returns-clause-notes
returns-clause-notes c = let k = gathered _ _ _ _ _ c.close_with-closed.ensures.values.2 c.loop-desk.invariant.6
    (has_all c.args.desks.items c.loop-desk.desks.items c.loop-desk.invariant.0 c.loop-desk.invariant.1 (let z = c.in_default-pop.ensures.cases.0 in
    omega arith) c.loop-desk.seat.me.0.notes c.loop-desk.invariant.3 c.loop-desk.invariant.4 _ c.requires.all) c.take-slot.result c.take-slot.ensures.value in
    all_notes c.args.desks.items c.loop-desk.desks.items c.loop-desk.invariant.0 c.loop-desk.invariant.1 (let z = c.in_default-pop.ensures.cases.0 in
    omega arith) c.loop-desk.seat.me.0.notes c.loop-desk.invariant.3 c.loop-desk.invariant.4 (NoteOk c.unwrap.result)
    (is_it (λ t. EachNote (NoteOk t) c.loop-desk.seat.me.0.notes) c.take-slot.result k.0 c.unwrap.result k.1 c.unwrap.ensures k.5)

pub returns-clause-over : goal.returns-clause-over
returns-clause-over c a = let k = gathered _ _ _ _ _ c.close_with-closed.ensures.values.2 c.loop-desk.invariant.6
    (has_all c.args.desks.items c.loop-desk.desks.items c.loop-desk.invariant.0 c.loop-desk.invariant.1 (let z = c.in_default-pop.ensures.cases.0 in
    omega arith) c.loop-desk.seat.me.0.notes c.loop-desk.invariant.3 c.loop-desk.invariant.4 _ c.requires.all) c.take-slot.result c.take-slot.ensures.value in
    let seen : c.loop-desk.seat.me.0.over ≡ true = c.loop-desk.invariant.8 a.1
    (in_gone c.args.desks.items c.loop-desk.desks.items c.loop-desk.invariant.0 c.loop-desk.invariant.1 (let z = c.in_default-pop.ensures.cases.0 in
    omega arith) c.loop-desk.seat.me.0.notes c.loop-desk.invariant.3 c.loop-desk.invariant.4 a.1 (a.0, a.2, a.3)) a.4 in
    is_it (λ t. IsOver (machine t) t.state) c.take-slot.result k.0 c.unwrap.result k.1 c.unwrap.ensures (k.6 seen)

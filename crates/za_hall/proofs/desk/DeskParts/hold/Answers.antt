use Rattle.std.proofs.Common.{◌⊎◌, inl, inr, map, ◌≡◌, ℕ, ◌<◌, ◌∷◌, ◌++◌, [], List, length, sym, ap, ◌∙◌, subst, refl, true, false, cond, Bool, eqb, Option}
use Rattle.std.proofs.Common.{Some, IsTrue}
use Rattle.za_alpha.specs.Words.{has}
use Rattle.za_alpha.specs.Alphabet.{loc_of}
use Rattle.za_dfa.specs.Tables.{CompleteDfa}
use Rattle.za_table.specs.Tables.{Given, TableState, machine_of}
use Rattle.za_local.specs.Locals.{local_after, AreLocalsAfter, HasShape}
use Rattle.za_hall.specs.Private.Serving.{FitsDfa, letter_number, Rests}
use Rattle.za_hall.specs.Views.{View, Note}
use Rattle.za_hall.specs.declared.turn.Turn.{Turn}
use Rattle.za_hall.specs.Rule.{Hand}
use Rattle.za_hall.specs.Own.{Own}
use Rattle.atomic_table.specs.Table.{rest}
use Rattle.za_hall.specs.Steps.{tried, given_back, Taken}
use Rattle.za_hall.specs.Answers.{Try}
use Rattle.za_shared.specs.Records.{IsTransition}
use Rattle.za_hall.specs.Answers.{note_of}
use Rattle.za_hall.specs.Private.Serving.{note_number}
use Rattle.za_hall.proofs.Events.{own_given, only}
use Rattle.za_hall.proofs.Told.{one_note, inside, bounds, whole, held, free, its_own, numbers_after, told_after, hand_after, ended_after, try_held}
use Rattle.za_hall.proofs.desk.DeskParts.hold.Goals as goal

marked : (over : Bool) → eqb (cond over 2 0) 2 ≡ over
marked true = refl
marked false = refl

-- the slots of the seat when it has another table
back : (m : Hand) (v : View) (t d : TableState) → m ≡ (tried 0 t v, (0, Some t) ∷ []) → (0, Some d) ∷ rest m.1 ≡ (0, Some d) ∷ []
back m v t d e = ap (λ (h : Hand). (0, Some d) ∷ rest h.1) e

-- the table that the seat lends is the one that it took
lent : (m : Hand) (v : View) (t u : TableState) (o : Option TableState) → m ≡ (tried 0 t v, (0, Some t) ∷ []) → Taken t v
    → m.1 ≡ (0, o) ∷ rest m.1 → o ≡ Some u → (m ≡ (tried 0 u v, (0, Some u) ∷ [])) × Taken u v
lent m v t u o e k l s =
    let ends : (0, Some t) ∷ [] ≡ (0, o) ∷ rest m.1 = sym (ap (λ (h : Hand). h.1) e) ∙ l in
    let pairs : (0, Some t) ≡ (0, o) = cc in
    let both : Some t ≡ Some u = ap (λ (x : ℕ × Option TableState). x.1) pairs ∙ s in
    let same : t ≡ u = cc in
    (subst (λ (x : TableState). m ≡ (tried 0 x v, (0, Some x) ∷ [])) same e, subst (λ (x : TableState). Taken x v) same k)

pub slot_mut-requires : goal.slot_mut-requires
slot_mut-requires c =
    let f = c.in_default.ensures.found in let e = ap (λ (m : Hand). m.1) f.1 in
    (c.take.ensures.hall ∙ c.requires.name, (Some f.0, e ∙ ap (λ l. (0, Some f.0) ∷ rest l) (sym e)))

pub take-requires-clause-note : goal.take-requires-clause-note
take-requires-clause-note c = let o = one_note _ _ c.args.self.now.rests.0 in (o.0, o.1)

pub serve-served-requires-clause-told : goal.serve-served-requires-clause-told
serve-served-requires-clause-told c =
    let l = lent c.take.new.seat.me c.args.self.now.seat.me.0 c.in_default.ensures.found.0 c.in-Some.table c.slot_mut.result.now
    c.in_default.ensures.found.1 c.in_default.ensures.found.2 c.slot_mut.ensures.value c.in-Some.is in
    let r = c.args.self.now.rests in bounds _ _ _ _ r.0 r.1 r.2 c.in-Some.table l.1

pub serve-served-requires-clause-whole : goal.serve-served-requires-clause-whole
serve-served-requires-clause-whole c =
    let l = lent c.take.new.seat.me c.args.self.now.seat.me.0 c.in_default.ensures.found.0 c.in-Some.table c.slot_mut.result.now
    c.in_default.ensures.found.1 c.in_default.ensures.found.2 c.slot_mut.ensures.value c.in-Some.is in
    let r = c.args.self.now.rests in whole _ _ _ _ r.0 r.1 r.2 c.in-Some.table l.1

pub count-self-requires : goal.count-self-requires
count-self-requires c =
    let l = lent c.take.new.seat.me c.args.self.now.seat.me.0 c.in_default.ensures.found.0 c.in-Some.table c.slot_mut.result.now
    c.in_default.ensures.found.1 c.in_default.ensures.found.2 c.slot_mut.ensures.value c.in-Some.is in
    let r = c.args.self.now.rests in let p = c.args.self.now.process in
    subst (λ (j : Given). p < (machine_of j).processes) (sym (own_given p c.in-Some.table c.serve-served.new.table c.serve-served.ensures.own))
    (inside _ _ _ _ r.0 r.1 r.2 c.in-Some.table l.1)

pub give-requires-clause-own : goal.give-requires-clause-own
give-requires-clause-own c =
    let l = lent c.take.new.seat.me c.args.self.now.seat.me.0 c.in_default.ensures.found.0 c.in-Some.table c.slot_mut.result.now
    c.in_default.ensures.found.1 c.in_default.ensures.found.2 c.slot_mut.ensures.value c.in-Some.is in
    let r = c.args.self.now.rests in let d : TableState = c.serve-served.new.table in
    let P : Hand → Type 0 = λ m. (n : Note) × (m.0.notes ≡ n ∷ []) × Own n.number m.0.took d in
    let k = subst P (sym l.0) (its_own _ _ _ _ r.0 r.1 r.2 c.in-Some.table l.1 d c.serve-served.ensures.own) in
    (k.0, d, k.1, back c.take.new.seat.me c.args.self.now.seat.me.0 c.in-Some.table d l.0, k.2, c.over-self.ensures.over)

-- the hall's automaton is that of the table
same_dfa : (a : CompleteDfa) (h v t : Given) → a ≡ h.dfa → v ≡ h → t ≡ v → a ≡ t.dfa
same_dfa a h v t e f g = e ∙ ap (λ (j : Given). j.dfa) (sym f ∙ sym g)

pub compute-requires-clause-taken : goal.compute-requires-clause-taken
compute-requires-clause-taken c a e =
    let l = lent c.take.new.seat.me c.args.self.now.seat.me.0 c.in_default.ensures.found.0 c.in-Some.table c.slot_mut.result.now
    c.in_default.ensures.found.1 c.in_default.ensures.found.2 c.slot_mut.ensures.value c.in-Some.is in
    let k = c.serve-served.ensures.taken a (ap letter_number (sym c.taken_up-self.ensures) ∙ e) in
    let P : CompleteDfa → Type 0 = λ d. (a < length d.alphabet.letters) × ((w : List ℕ) × AreLocalsAfter d w
    (loc_of d.alphabet a) c.serve-served.new.bench.locals) in
    subst P (sym (same_dfa c.args.hall.now.closed c.args.hall.now.board.shared.key.value.given c.args.self.now.seat.me.0.given c.in-Some.table.given
    c.args.hall.now.of_job.2 c.requires.given l.1.of_job)) (k.1, (c.in-Some.table.state.journal, k.2))

-- the seat after the hold
at_end : (v : View) (t d : TableState) (x : ℕ) (xs : List (ℕ × Option TableState)) (m n : Hand) → m ≡ (tried 0 t v, xs) → n ≡ (given_back x d m.0, []) → n ≡
    (given_back x d (tried 0 t v), [])
at_end v t d x xs m n e f = f ∙ ap (λ (h : Hand). (given_back x d h.0, [])) e

pub invariant_of-self-2 : goal.invariant_of-self-2
invariant_of-self-2 c =
    let l = lent c.take.new.seat.me c.args.self.now.seat.me.0 c.in_default.ensures.found.0 c.in-Some.table c.slot_mut.result.now
    c.in_default.ensures.found.1 c.in_default.ensures.found.2 c.slot_mut.ensures.value c.in-Some.is in
    let r = c.args.self.now.rests in let v : View = c.args.self.now.seat.me.0 in let p : ℕ = c.args.self.now.process in let t : TableState = c.in-Some.table in
    let d : TableState = c.serve-served.new.table in
    let k = l.1 in
    let R : Hand → Type 0 = λ m. Rests p c.count-self.result (letter_number c.taken_up-self.result) c.over-self.result c.ended-self.result m in
    let end = at_end v t d (cond c.over-self.result 2 0) ((0, Some t) ∷ []) c.take.new.seat.me c.give.new.seat.me l.0
    (c.give.ensures.given d (back c.take.new.seat.me v t d l.0)) in
    let job : c.give.new.seat.me.0.given ≡ v.given = ap (λ (m : Hand). m.0.given) end in
    let F : Given → Type 0 = λ j. FitsDfa j.dfa c.serve-served.new.bench in
    let S : CompleteDfa → Type 0 = λ a. HasShape a.alphabet.processes a.states c.compute.new.made in
    let Q : CompleteDfa → Type 0 = λ z. (a : ℕ) → letter_number c.taken_up-self.result ≡ Some a → (w : List ℕ) → AreLocalsAfter z w
    (loc_of z.alphabet a) c.serve-served.new.bench.locals → (x : ℕ) → IsTrue (has (loc_of z.alphabet a) x) → c.compute.new.made ≡ local_after z
    (w ++ a ∷ []) x in
    let dfa : c.args.hall.now.closed ≡ c.give.new.seat.me.0.given.dfa =
    same_dfa c.args.hall.now.closed c.args.hall.now.board.shared.key.value.given v.given t.given c.args.hall.now.of_job.2 c.requires.given k.of_job ∙ ap
    (λ (j : Given). j.dfa) (k.of_job ∙ sym job) in record {
      rests = subst R (sym end) (
        numbers_after v p c.args.self.now.told (letter_number c.args.self.now.letter) r.0 r.1 r.2 t k d,
        told_after v p c.args.self.now.told (letter_number c.args.self.now.letter) r.0 r.1 r.2 t k d ∙ sym c.count-self.ensures,
        hand_after v p c.args.self.now.told (letter_number c.args.self.now.letter) r.0 r.1 r.2 t k d ∙
            (c.serve-served.ensures.hand ∙ ap letter_number (sym c.taken_up-self.ensures)),
        refl,
        marked c.over-self.result,
        refl,
        ended_after v p c.args.self.now.told (letter_number c.args.self.now.letter) r.0 r.1 r.2 t k d ∙ sym c.ended-self.ensures,
      );
      inside = subst (λ (j : Given). p < j.dfa.alphabet.processes) (sym job) c.args.self.now.inside;
      fits = (subst F (k.of_job ∙ sym job) c.serve-served.ensures.bench, subst S dfa c.compute.ensures.shape);
      ready = subst Q dfa c.compute.ensures.made;
    }

pub returns-clause-tried : goal.returns-clause-tried
returns-clause-tried c =
    let l = lent c.take.new.seat.me c.args.self.now.seat.me.0 c.in_default.ensures.found.0 c.in-Some.table c.slot_mut.result.now
    c.in_default.ensures.found.1 c.in_default.ensures.found.2 c.slot_mut.ensures.value c.in-Some.is in
    let r = c.args.self.now.rests in let v : View = c.args.self.now.seat.me.0 in let p : ℕ = c.args.self.now.process in let t : TableState = c.in-Some.table in
    let d : TableState = c.serve-served.new.table in
    let end = at_end v t d (cond c.over-self.result 2 0) ((0, Some t) ∷ []) c.take.new.seat.me c.give.new.seat.me l.0
    (c.give.ensures.given d (back c.take.new.seat.me v t d l.0)) in
    let P : Option Turn → View → Type 0 = λ o w. Try p v o w in
    subst (λ (z : Option Turn × View). P z.0 z.1) (λ i. (sym c.answer.ensures i, sym (ap (λ (m : Hand). m.0) end) i))
    (try_held v p c.args.self.now.told
    (letter_number c.args.self.now.letter) r.0 r.1 r.2 t l.1 d c.serve-served.ensures.own c.serve-served.result c.over-self.result
    c.serve-served.ensures.answer (λ a e. (c.serve-served.ensures.taken a e).0) c.serve-served.ensures.hand c.over-self.ensures.over)

pub ended-self-requires : goal.ended-self-requires
ended-self-requires c =
    let l = lent c.take.new.seat.me c.args.self.now.seat.me.0 c.in_default.ensures.found.0 c.in-Some.table c.slot_mut.result.now
    c.in_default.ensures.found.1 c.in_default.ensures.found.2 c.slot_mut.ensures.value c.in-Some.is in
    let r = c.args.self.now.rests in let p = c.args.self.now.process in
    subst (λ (j : Given). p < (machine_of j).processes) (sym (own_given p c.in-Some.table c.serve-served.new.table c.serve-served.ensures.own))
    (inside _ _ _ _ r.0 r.1 r.2 c.in-Some.table l.1)

pub serve-served-requires-clause-ready : goal.serve-served-requires-clause-ready
serve-served-requires-clause-ready c a e =
    let l = lent c.take.new.seat.me c.args.self.now.seat.me.0 c.in_default.ensures.found.0 c.in-Some.table c.slot_mut.result.now
    c.in_default.ensures.found.1 c.in_default.ensures.found.2 c.slot_mut.ensures.value c.in-Some.is in
    subst (λ (j : Given). IsTransition j.dfa a c.args.self.now.bench.locals c.args.self.now.made)
    (sym l.1.of_job) (c.args.self.now.ready a e)

-- the seat after a try that was refused
pub invariant_of-self : goal.invariant_of-self
invariant_of-self c =
    let r = c.args.self.now.rests in let f = c.in-Err.ensures.found in let v : View = c.args.self.now.seat.me.0 in
    let now = f.1.1 in let n : ℕ = c.in-Err.found in
    let same : c.take.new.seat.me.0.given ≡ v.given = ap (λ (m : Hand). m.0.given) now in
    let D : Given → Type 0 = λ j. FitsDfa j.dfa c.args.self.now.bench × HasShape j.dfa.alphabet.processes j.dfa.states c.args.self.now.made in
    let R : Given → Type 0 = λ j. (a : ℕ) → letter_number c.args.self.now.letter ≡ Some a
    → IsTransition j.dfa a c.args.self.now.bench.locals c.args.self.now.made in record {
      rests = (
        ap (λ (m : Hand). map note_number m.0.notes) now ∙ r.0,
        ap (λ (m : Hand). length (note_of m.0).fired) now ∙ r.1,
        ap (λ (m : Hand). (note_of m.0).hand) now ∙ r.2,
        ap (λ (m : Hand). m.0.holds) now ∙ not_zero n f.0,
        ap (λ (m : Hand). m.0.over) now,
        ap (λ (m : Hand). m.1) now,
        ap (λ (m : Hand). (note_of m.0).ended) now ∙ r.6,
      );
      inside = subst (λ (j : Given). c.args.self.now.process < j.dfa.alphabet.processes) (sym same) c.args.self.now.inside;
      fits = subst D (sym same) c.args.self.now.fits;
      ready = subst R (sym same) c.args.self.now.ready;
    }
  where
    not_zero : (n : ℕ) → (n ≡ 1) ⊎ (n ≡ 2) → eqb n 0 ≡ false
    not_zero n (inl e) = ap (λ (k : ℕ). eqb k 0) e
    not_zero n (inr e) = ap (λ (k : ℕ). eqb k 0) e

pub serve-served-requires-clause-held : goal.serve-served-requires-clause-held
serve-served-requires-clause-held c =
    let l = lent c.take.new.seat.me c.args.self.now.seat.me.0 c.in_default.ensures.found.0 c.in-Some.table c.slot_mut.result.now
    c.in_default.ensures.found.1 c.in_default.ensures.found.2 c.slot_mut.ensures.value c.in-Some.is in
    let r = c.args.self.now.rests in held _ _ _ _ r.0 r.1 r.2 c.in-Some.table l.1

pub serve-served-requires-clause-free : goal.serve-served-requires-clause-free
serve-served-requires-clause-free c =
    let l = lent c.take.new.seat.me c.args.self.now.seat.me.0 c.in_default.ensures.found.0 c.in-Some.table c.slot_mut.result.now
    c.in_default.ensures.found.1 c.in_default.ensures.found.2 c.slot_mut.ensures.value c.in-Some.is in
    let r = c.args.self.now.rests in free _ _ _ _ r.0 r.1 r.2 c.in-Some.table l.1

pub tell-requires : goal.tell-requires
tell-requires c a e =
    let l = lent c.take.new.seat.me c.args.self.now.seat.me.0 c.in_default.ensures.found.0 c.in-Some.table c.slot_mut.result.now
    c.in_default.ensures.found.1 c.in_default.ensures.found.2 c.slot_mut.ensures.value c.in-Some.is in
    let r = c.args.self.now.rests in let k = l.1 in
    let o = only k.covered a c.args.self.now.process (held _ _ _ _ r.0 r.1 r.2 c.in-Some.table k a e) in
    subst (λ (d : CompleteDfa). a < length d.alphabet.letters)
    (sym (same_dfa c.args.hall.now.closed c.args.hall.now.board.shared.key.value.given c.args.self.now.seat.me.0.given c.in-Some.table.given
    c.args.hall.now.of_job.2 c.requires.given k.of_job)) o.0

pub returns-clause-desk : goal.returns-clause-desk
returns-clause-desk c =
    let l = lent c.take.new.seat.me c.args.self.now.seat.me.0 c.in_default.ensures.found.0 c.in-Some.table c.slot_mut.result.now
    c.in_default.ensures.found.1 c.in_default.ensures.found.2 c.slot_mut.ensures.value c.in-Some.is in
    let v : View = c.args.self.now.seat.me.0 in let t : TableState = c.in-Some.table in
    let d : TableState = c.serve-served.new.table in
    let end = at_end v t d (cond c.over-self.result 2 0) ((0, Some t) ∷ []) c.take.new.seat.me c.give.new.seat.me l.0
    (c.give.ensures.given d (back c.take.new.seat.me v t d l.0)) in record {
      name = c.give.ensures.hall ∙ c.take.ensures.hall;
      number = refl;
      given = ap (λ (m : Hand). m.0.given) end;
    }

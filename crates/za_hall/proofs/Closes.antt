-- The table once all desks are put together.
use Rattle.std.proofs.Common.{◌≡◌, ◌≢◌, ℕ, zero, suc, ◌<◌, true, false, List, [], ◌∷◌, ◌++◌, map, length, get_or, sym, refl, ap, ◌∙◌, subst, ⊎_elim, arith}
use Rattle.std.proofs.Common.{Some}
use mathlib.Core.Option.{some, some-injective}
use lib.ListN.{get_elem?}
use Rattle.std.specs.List.{All, Contains}
use Rattle.std.proofs.lemmas.Bool.{or_cases}
use Rattle.std.proofs.lemmas.List.Elements.{Contains-append_cases, All-contains_itself}
use Rattle.atomic_table.specs.Table.{Final, Seen}
use Rattle.za_machine.specs.Machine.{is_in, IsOver, IsMachineState}
use Rattle.za_table.specs.Tables.{Given, TableState, machine_of}
use Rattle.za_hall.specs.Own.{machine}
use Rattle.za_hall.specs.Places.{places}
use Rattle.za_hall.specs.Views.{View, Note}
use Rattle.za_hall.specs.Halls.{DeskState}
use Rattle.za_hall.specs.Rule.{arrivals_of, Slot, IsCovered, FiredOk, NoteOk, EachNote, Kept}
use Rattle.za_hall.specs.Private.Serving.{note_number}
use Rattle.za_hall.specs.Answers.{note_of, first_note}
use Rattle.za_hall.specs.Halls.{fired, IsToldBy, HasDesks}
use Rattle.za_hall.proofs.Letters.{false_true}
use Rattle.za_hall.proofs.Told.{one_note}

pub each_contains : (P : Note → Type 0) (ns : List Note) (n : Note) → EachNote P ns → Contains ns n → P n
each_contains P [] n a c = let h = c.1 in absurd (omega arith)
each_contains P (m ∷ ns) n a (zero, lt, e) = subst P e a.0
each_contains P (m ∷ ns) n a (suc k, lt, e) = each_contains P ns n a.1 (k, (let h = lt in omega arith), e)

-- the table is at home where a seat has all numbers
pub closes : (job : Given) (ws : List ℕ) (xs : List Slot) (id : ℕ) (v : View) → Final (Seen (Kept job) id v) ws xs → v.holds ≡ false
    → ((p : ℕ) → p < (machine_of job).processes → (n : Note) × Contains v.notes n × (n.number ≡ p))
    → (t : TableState) × (get_elem? xs 0 ≡ some (Some t)) × (t.given ≡ job) × IsMachineState (machine t) t.state × IsCovered t × EachNote (NoteOk t) v.notes
    × (v.over ≡ true → IsOver (machine t) t.state)
closes job ws xs id v (s, (r, here), words, deep, homes) free all =
    let k = r.each id v here in
    (r.table, homes 0 (Some r.table) (r.home at_home), r.of_job, r.reached, r.covered, k.notes, λ e. r.is_over (k.over e))
  where
    at_home : r.word ≢ 1
    at_home e =
        let h = r.holder e in let n : Note = h.3.0 in
        let u = r.each r.turn h.0 h.1 in
        let theirs : EachNote (NoteOk r.table) (n ∷ h.3.1.0) = subst (EachNote (NoteOk r.table)) h.3.1.1 u.notes in
        let seat : EachNote (λ (m : Note). r.owner m.number ≡ r.turn) (n ∷ h.3.1.0) = subst
        (EachNote (λ (m : Note). r.owner m.number ≡ r.turn)) h.3.1.1 u.owned in
        let m = all n.number (subst (λ (j : Given). n.number < (machine_of j).processes) r.of_job theirs.0.inside) in
        let mine = each_contains (λ (q : Note). r.owner q.number ≡ id) v.notes m.0 (r.each id v here).owned m.1 in
        let same : r.turn ≡ id = sym seat.0 ∙ (ap r.owner (sym m.2) ∙ mine) in
        let one : some h.0 ≡ some v = sym h.1 ∙ (ap (get_elem? s.views) same ∙ here) in
        false_true (sym free ∙ (ap (λ (w : View). w.holds) (sym (some-injective h.0 v one)) ∙ h.2))

pub first_in : (ns : List Note) (p : ℕ) → map note_number ns ≡ p ∷ [] → Contains ns (first_note ns)
first_in ns p e = let o = one_note ns p e in let P : List Note → Type 0 = λ l. Contains l (first_note l) in subst P (sym o.1) (0, omega arith, refl)

pub some_note : (ns : List Note) (n : Note) → Contains ns n → (m : Note) × ((ms : List Note) × (ns ≡ m ∷ ms))
some_note [] n c = let h = c.1 in absurd (omega arith)
some_note (m ∷ ms) n c = (m, (ms, refl))

-- what is known of a desk by its note
pub told_by : (t : TableState) (d : DeskState) → (note_of d.view).number ≡ d.number → NoteOk t (note_of d.view) → IsToldBy t d
told_by t d e ok = record {
  arrivals = ok.arrivals ∙ ap (arrivals_of t) e;
  ended = ok.ended ∙ ap (is_in t.state.ended) e;
  fired = subst (λ (q : ℕ). FiredOk t q (fired d)) e ok.fired;
}

-- and where the table is over, no place is missing
pub all_fired : (t : TableState) (d : DeskState) → IsOver (machine t) t.state → (note_of d.view).number ≡ d.number → NoteOk t (note_of d.view)
    → fired d ≡ places (machine t) d.number t.state.journal
all_fired t d over e ok = let k = told_by t d e ok in let l : d.number < (machine t).processes = subst (λ (q : ℕ). q < (machine t).processes) e ok.inside in
    ⊎_elim (λ f. f) (λ m. ⊎_elim (λ h. absurd (false_true (sym m.0 ∙ h))) (λ h. absurd (false_true (sym m.1 ∙ h)))
    (or_cases (is_in t.state.arrived d.number) (is_in t.state.ended d.number) (over.each d.number l))) k.fired

-- the desks that are gone, once none is left
module _ (desks left gone : List DeskState) (split : desks ≡ left ++ gone) (none_left : length left ≡ 0) (notes : List Note) (there : (d : DeskState)
    → Contains gone d → Contains notes (note_of d.view)) (numbers : (d : DeskState) → Contains gone d → (note_of d.view).number ≡ d.number) where
  pub in_gone : (d : DeskState) → Contains desks d → Contains gone d
  in_gone d h = ⊎_elim (λ k. let l = k.1 in absurd (omega arith)) (λ k. k) (Contains-append_cases left gone d (subst (λ ds. Contains ds d) split h))

  pub has_all : (n : ℕ) → HasDesks n desks → (p : ℕ) → p < n → (m : Note) × Contains notes m × (m.number ≡ p)
  has_all n all p l = let a = all p l in let g = in_gone a.1 (a.0, a.2, a.3) in (note_of a.1.view, there a.1 g, numbers a.1 g ∙ a.4)

  pub all_notes : (P : Note → Type 0) → EachNote P notes → All (λ d. P (note_of d.view)) desks
  all_notes P each k d lt = let x : DeskState = get_or desks k d in each_contains P notes (note_of x.view) each
      (there x (in_gone x (All-contains_itself desks k d lt)))

-- each of the desks has the number of its note
pub all_numbers : (desks left gone : List DeskState) → desks ≡ left ++ gone → length left ≡ 0 →
    ((d : DeskState) → Contains gone d → (note_of d.view).number ≡ d.number) → All (λ d. (note_of d.view).number ≡ d.number) desks
all_numbers desks left gone split none_left numbers k d lt = let x : DeskState = get_or desks k d in
    numbers x (⊎_elim (λ k. let l = k.1 in absurd (omega arith)) (λ k. k) (Contains-append_cases left gone x
    (subst (λ ds. Contains ds x) split (All-contains_itself desks k d lt))))

pub gathered : (job : Given) (ws : List ℕ) (xs : List Slot) (id : ℕ) (v : View) → Final (Seen (Kept job) id v) ws xs → v.holds ≡ false
    → ((p : ℕ) → p < (machine_of job).processes → (n : Note) × Contains v.notes n × (n.number ≡ p)) → (o : Slot) → get_elem? xs 0 ≡ some o
    → (t : TableState) × (o ≡ Some t) × (t.given ≡ job) × IsMachineState (machine t) t.state × IsCovered t × EachNote (NoteOk t) v.notes ×
    (v.over ≡ true → IsOver (machine t) t.state)
gathered job ws xs id v final free all o e = let k = closes job ws xs id v final free all in
    (k.0, some-injective o (Some k.0) (sym e ∙ k.1), k.2, k.3, k.4, k.5, k.6)

pub is_it : (P : TableState → Type 0) (o : Slot) (t d : TableState) → o ≡ Some t → o ≡ Some d → P t → P d
is_it P o t d e f = let z : Some t ≡ Some d = sym e ∙ f in let y : t ≡ d = cc in subst P y

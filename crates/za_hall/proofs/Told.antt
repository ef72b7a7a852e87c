-- What a try knows of its desk's note, before and after.
use Rattle.std.proofs.Common.{eqb, ◌≡◌, ◌⊎◌, ◌↔◌, IsTrue, ℕ, ◌+◌, ◌<◌, ◌≤◌, Bool, true, false, not, ◌&&◌, cond, inl, inr, ⊎_elim, List, [], ◌∷◌, ◌++◌, map}
use Rattle.std.proofs.Common.{length, refl, sym, ap, subst, ◌∙◌, arith, Option, Some, None, length-append, append-nil, append_assoc, get_or-set_same, set}
use Rattle.std.proofs.lemmas.Bool.{cases_Bool}
use Rattle.za_alpha.specs.Words.{has}
use Rattle.za_machine.specs.Machine.{is_in, fired_by, without, IsOver, IsAllowed, End}
use Rattle.za_machine.proofs.States.{not_both, reached-sound, at-without, fired_by-own}
use Rattle.za_hall.specs.declared.turn.Turn.TheVariants.{Fired, Ended, Over, Busy}
use Rattle.za_script.proofs.Lists.{same_front}
use Rattle.za_table.specs.Tables.{TableState, machine_of}
use Rattle.za_hall.specs.Own.{machine, arrives, ends_script, takes_up, settles, Own, OwnNone, OwnArrival, OwnTakeUp, OwnFiring, OwnEnding}
use Rattle.za_machine.specs.Hands.{hand}
use Rattle.za_hall.specs.Places.{places}
use Rattle.za_hall.specs.Views.{View, Note}
use Rattle.za_hall.specs.declared.serving.Served.{Served}
use Rattle.za_hall.specs.Rule.{NoteOk, EachNote, FiredOk}
use Rattle.za_hall.specs.Steps.{tried, given_back, noted, Taken, hand_of}
use Rattle.za_hall.specs.Private.Serving.{note_number, first_fired, first_hand, first_arrivals, first_ended, letter_number, TellsServed, letter_after, answered}
use Rattle.za_hall.specs.Answers.{IsLast, with_fired, Says, Try, Stays, ArrivesOnce, EndsOnce, IsPending}
use Rattle.za_hall.proofs.Letters.{false_true, length_places, places_own, places_other, parts}
use Rattle.za_machine.specs.Private.Standing.{IsSound}
use Rattle.za_shared.specs.Records.{Records}
use Rattle.za_hall.proofs.Events.{own_covered, own_reached, only}
use Rattle.za_hall.specs.declared.serving.Served.TheVariants as served

pub one_note : (ns : List Note) (p : ℕ) → map note_number ns ≡ p ∷ [] → (n : Note) × (ns ≡ n ∷ []) × (n.number ≡ p)
one_note [] p e = absurd (cc)
one_note (n ∷ []) p e = (n, refl, cc)
one_note (n ∷ m ∷ ns) p e = absurd (cc)

-- positions are only added
grows : (p q : ℕ) (t d : TableState) → Own p t d → (more : List ℕ) × (places (machine d) q d.state.journal ≡ places (machine t) q t.state.journal ++ more)
grows p q t _ OwnNone = ([], sym (append-nil (places (machine t) q t.state.journal)))
grows p q t _ (OwnArrival a ready nxt short) = ([], sym (append-nil (places (machine t) q t.state.journal)))
grows p q t _ (OwnTakeUp a ready nxt full) = ([], sym (append-nil (places (machine t) q t.state.journal)))
grows p q t _ (OwnFiring a rs mine) = elim (cases_Bool (has ((machine t).loc a) q)) [
  | inl own ↦ (length t.state.journal ∷ [], places_own (machine t) q a t.state.journal own)
  | inr out ↦ ([], places_other (machine t) q a t.state.journal out ∙ sym (append-nil (places (machine t) q t.state.journal)))
]
grows p q t _ (OwnEnding spent) = ([], sym (append-nil (places (machine t) q t.state.journal)))

begins : (t : TableState) (p : ℕ) (fired : List ℕ) → FiredOk t p fired → (more : List ℕ) × (places (machine t) p t.state.journal ≡ fired ++ more) ×
    (length more ≤ 1)
begins t p fired (inl e) = ([], sym (append-nil fired ∙ e), omega arith)
begins t p fired (inr k) = (k.2.0 ∷ [], k.2.1, omega arith)

-- the last of two equal lists
same_last : (xs ys : List ℕ) (x y : ℕ) → xs ++ x ∷ [] ≡ ys ++ y ∷ [] → length xs ≡ length ys → x ≡ y
same_last [] [] x y e l = cc
same_last [] (z ∷ ys) x y e l = absurd (omega arith)
same_last (z ∷ xs) [] x y e l = absurd (omega arith)
same_last (z ∷ xs) (u ∷ ys) x y e l = let t : xs ++ x ∷ [] ≡ ys ++ y ∷ [] = cc in same_last xs ys x y t (omega arith)

whole_fired : (t : TableState) (p : ℕ) (fired : List ℕ) → FiredOk t p fired → (is_in t.state.arrived p ≡ true) ⊎ (is_in t.state.ended p ≡ true)
    → fired ≡ places (machine t) p t.state.journal
whole_fired t p fired (inl e) here = e
whole_fired t p fired (inr k) (inl here) = absurd (false_true (sym k.0 ∙ here))
whole_fired t p fired (inr k) (inr gone) = absurd (false_true (sym k.1 ∙ gone))

module _ (v : View) (p told : ℕ) (letter : Option ℕ) (numbers : map note_number v.notes ≡ p ∷ []) (told_all : length (first_fired v.notes) ≡ told)
    (hand_is : first_hand v.notes ≡ letter) (t : TableState) (k : Taken t v) where
  pub its_note : (n : Note) × (v.notes ≡ n ∷ []) × (n.number ≡ p) × NoteOk t n
  its_note = let o = one_note v.notes p numbers in (o.0, o.1, o.2, (subst (EachNote (NoteOk t)) o.1 k.notes).0)

  its_fired : FiredOk t p (first_fired v.notes)
  its_fired = let n = its_note in let P : ℕ → List ℕ → Type 0 = λ q fs. FiredOk t q fs in
      subst (λ (z : ℕ × List ℕ). P z.0 z.1) (λ i. (n.2 i, ap first_fired (sym n.1) i)) n.3.fired

  pub inside : p < (machine t).processes
  inside = let n = its_note in subst (λ (q : ℕ). q < (machine t).processes) n.2 n.3.inside

  pub bounds : (told ≤ fired_by (machine t) t.state.journal p) × (fired_by (machine t) t.state.journal p ≤ told + 1)
  bounds = let b = begins t p (first_fired v.notes) its_fired in let l = length_places (machine t) p t.state.journal in let m = ap length b.1 in let a =
      length-append (first_fired v.notes) b.0 in let h = b.2 in (omega arith, omega arith)

  pub whole : (is_in t.state.arrived p ≡ true) ⊎ (is_in t.state.ended p ≡ true) → fired_by (machine t) t.state.journal p ≡ told
  whole here = sym (length_places (machine t) p t.state.journal) ∙ (ap length (sym (whole_fired t p (first_fired v.notes) its_fired here)) ∙ told_all)

  its_letter : (n : Note) → v.notes ≡ n ∷ [] → n.hand ≡ letter
  its_letter n e = ap first_hand (sym e) ∙ hand_is

  pub held : (a : ℕ) → letter ≡ Some a → hand t.hands a ≡ Some p
  held a e = let n = its_note in n.3.held a (its_letter n.0 n.1 ∙ e) ∙ ap Some n.2

  pub free : (a : ℕ) → hand t.hands a ≡ Some p → letter ≡ Some a
  free a e = let n = its_note in sym (its_letter n.0 n.1) ∙ n.3.has a (e ∙ ap Some (sym n.2))

  pub its_own : (d : TableState) → Own p t d → (n : Note) × (v.notes ≡ n ∷ []) × Own n.number t d
  its_own d own = let n = its_note in (n.0, n.1, subst (λ (q : ℕ). Own q t d) (sym n.2) own)

  -- the positions after the hold
  after_fired : (d : TableState) → Own p t d → (more : List ℕ) × (places (machine d) p d.state.journal ≡ first_fired v.notes ++ more)
  after_fired d own = let b = begins t p (first_fired v.notes) its_fired in let g = grows p p t d own in
      (b.0 ++ g.0, g.1 ∙ (ap (λ xs. xs ++ g.0) b.1 ∙ append_assoc (first_fired v.notes) b.0 g.0))

  fired_same : (d : TableState) → Own p t d → fired_by (machine d) d.state.journal p ≡ told → places (machine d) p d.state.journal ≡ first_fired v.notes
  fired_same d own as_many = let f = after_fired d own in
      sym (same_front (first_fired v.notes) f.0 (places (machine d) p d.state.journal) [] (sym f.1 ∙ sym (append-nil (places (machine d) p d.state.journal)))
      (let l = length_places (machine d) p d.state.journal in omega arith))

  fired_next : (d : TableState) (at : ℕ) → Own p t d → IsLast p told at d → places (machine d) p d.state.journal ≡ first_fired v.notes ++ at ∷ []
  fired_next d at own last = let f = after_fired d own in
      last.1 ∙ ap (λ xs. xs ++ at ∷ []) (same_front last.0 (at ∷ []) (first_fired v.notes) f.0 (sym last.1 ∙ f.1) (last.2 ∙ sym told_all))

  -- the notes after the hold
  pub numbers_after : (d : TableState) → map note_number (map (noted d) v.notes) ≡ p ∷ []
  numbers_after d = let o = one_note v.notes p numbers in ap (λ ns. map note_number (map (noted d) ns)) o.1 ∙ ap (λ (q : ℕ). q ∷ []) o.2

  pub fired_after : (d : TableState) → first_fired (map (noted d) v.notes) ≡ places (machine d) p d.state.journal
  fired_after d = let o = one_note v.notes p numbers in ap (λ ns. first_fired (map (noted d) ns)) o.1 ∙ ap (λ (q : ℕ). places (machine d) q d.state.journal) o.2

  pub told_after : (d : TableState) → length (first_fired (map (noted d) v.notes)) ≡ fired_by (machine d) d.state.journal p
  told_after d = ap length (fired_after d) ∙ length_places (machine d) p d.state.journal

  pub hand_after : (d : TableState) → first_hand (map (noted d) v.notes) ≡ hand_of d p
  hand_after d = let o = one_note v.notes p numbers in ap (λ ns. first_hand (map (noted d) ns)) o.1 ∙ ap (hand_of d) o.2

  pub ended_after : (d : TableState) → first_ended (map (noted d) v.notes) ≡ is_in d.state.ended p
  ended_after d = let o = one_note v.notes p numbers in ap (λ ns. first_ended (map (noted d) ns)) o.1 ∙ ap (is_in d.state.ended) o.2

  arrivals_after : (d : TableState) → first_arrivals (map (noted d) v.notes) ≡ fired_by (machine d) d.state.journal p + cond (is_in d.state.arrived p) 1 0
  arrivals_after d = let o = one_note v.notes p numbers in ap (λ ns. first_arrivals (map (noted d) ns)) o.1 ∙ ap
      (λ (q : ℕ). fired_by (machine d) d.state.journal q + cond (is_in d.state.arrived q) 1 0) o.2

  ended_before : first_ended v.notes ≡ is_in t.state.ended p
  ended_before = let n = its_note in ap first_ended n.1 ∙ (n.3.ended ∙ ap (is_in t.state.ended) n.2)

  arrivals_before : first_arrivals v.notes ≡ fired_by (machine t) t.state.journal p + cond (is_in t.state.arrived p) 1 0
  arrivals_before = let n = its_note in ap first_arrivals n.1 ∙ (n.3.arrivals ∙ ap
      (λ (q : ℕ). fired_by (machine t) t.state.journal q + cond (is_in t.state.arrived q) 1 0) n.2)

  away_once_arrived : is_in (set t.state.arrived p true) p ≡ true
  away_once_arrived = get_or-set_same t.state.arrived p true false (let e = (reached-sound (machine t) t.state k.reached).arrived_size in let l = inside in
      omega arith)

  gone_once_ended : is_in (set t.state.ended p true) p ≡ true
  gone_once_ended = get_or-set_same t.state.ended p true false (let e = (reached-sound (machine t) t.state k.reached).ended_size in let l = inside in
      omega arith)

  -- whoever may end has not arrived
  no_end_here : IsAllowed (machine t) t.state (End p) → is_in t.state.arrived p ≡ true → ⊥
  no_end_here spent here = let w = (reached-sound (machine t) t.state k.reached).waits p here in let e = ap length spent.2 in omega arith

  here_by : (a : ℕ) → hand t.hands a ≡ Some p → is_in t.state.arrived p ≡ true
  here_by a mine = let o = only k.covered a p mine in (parts (machine t) t.state a p o.1 o.2).0

  waits_here : (d : TableState) (s : Served) → TellsServed s told p d → d.state.arrived ≡ t.state.arrived → d.hands ≡ t.hands → is_in d.state.ended p ≡ true →
      ((b : Bool) → answered s b ≡ Some Ended) ⊎ (is_in t.state.arrived p ≡ true)
  waits_here d (served.Fired q) h e f g = absurd (false_true (sym h.2 ∙ g))
  waits_here d (served.Waiting a missing by) h e f g = inr (ap (λ bs. is_in bs p) (sym e) ∙ h.1.arrived)
  waits_here d served.Ended h e f g = inl (λ b. refl)
  waits_here d (served.TookUp a) h e f g = inr (here_by a.0 (ap (λ hs. hand hs a.0) (sym f) ∙ h.1))

  stays_none : Stays v (given_back 0 t (tried 0 t v))
  stays_none = (arrivals_after t ∙ sym arrivals_before, ended_after t ∙ sym ended_before)

  stays_firing : (a : ℕ) (rs : Records) → hand t.hands a ≡ Some p → Stays v (given_back 0 (settles a rs t) (tried 0 t v))
  stays_firing a rs mine = let o = only k.covered a p mine in
      let here = ap (λ b. cond {A = ℕ} b 1 0) (here_by a mine) in
      let away : is_in (without ((machine t).loc a) 0 t.state.arrived) p ≡ false = at-without ((machine t).loc a) t.state.arrived p ∙
      (λ i. here_by a mine i && not (o.2 i)) in
      let off = ap (λ b. cond {A = ℕ} b 1 0) away in
      let x = arrivals_after (settles a rs t) in let y = arrivals_before in let z = fired_by-own (machine t) t.state.journal a p o.2 in
      (omega arith, ended_after (settles a rs t) ∙ sym ended_before)

  arrives_once : (d : TableState) → d.state.journal ≡ t.state.journal → d.state.ended ≡ t.state.ended → d.given ≡ t.given → is_in d.state.arrived p ≡ true
      → is_in t.state.arrived p ≡ false
      → ArrivesOnce v (given_back 0 d (tried 0 t v)) × IsPending (given_back 0 d (tried 0 t v))
  arrives_once d journal ended job here away =
      let on = ap (λ b. cond {A = ℕ} b 1 0) here in let off = ap (λ b. cond {A = ℕ} b 1 0) away in
      let same : fired_by (machine d) d.state.journal p ≡ fired_by (machine t) t.state.journal p = (λ i. fired_by (machine_of (job i)) (journal i) p) in
      let x = arrivals_after d in let y = arrivals_before in let z = told_after d in
      ((omega arith, ended_after d ∙ (ap (λ bs. is_in bs p) ended ∙ sym ended_before)), omega arith)

  moves_of : (d : TableState) → Own p t d → (s : Served) (over : Bool) → TellsServed s told p d
      → Stays v (given_back 0 d (tried 0 t v)) ⊎ ((ArrivesOnce v (given_back 0 d (tried 0 t v)) × IsPending (given_back 0 d (tried 0 t v))) ⊎
      (EndsOnce v (given_back 0 d (tried 0 t v)) × (answered s over ≡ Some Ended)))
  moves_of _ OwnNone s over h = inl stays_none
  moves_of _ (OwnArrival a ready nxt short) s over h = inr (inl (arrives_once (arrives p t) refl refl refl away_once_arrived ready.1))
  moves_of _ (OwnTakeUp a ready nxt full) s over h = inr (inl (arrives_once (takes_up a p (arrives p t)) refl refl refl away_once_arrived ready.1))
  moves_of _ (OwnFiring a rs mine) s over h = inl (stays_firing a rs mine)
  moves_of _ (OwnEnding spent) s over h = let x = arrivals_after (ends_script p t) in let y = arrivals_before in
      inr (inr (
        (omega arith, ended_before ∙ spent.1, ended_after (ends_script p t) ∙ gone_once_ended),
        ⊎_elim (λ f. f over) (λ here. absurd (no_end_here spent here)) (waits_here (ends_script p t) s h refl refl gone_once_ended),
      ))

  untold : IsPending v → is_in t.state.arrived p ≡ false → fired_by (machine t) t.state.journal p ≡ told + 1
  untold e away = let a = arrivals_before in let z = ap (λ b. cond {A = ℕ} b 1 0) away in let l = told_all in omega arith

  -- the holds that tell no firing have told of all of them
  tells_all : (d : TableState) (s : Served) → TellsServed s told p d → ((is_in d.state.arrived p ≡ false) × (is_in d.state.ended p ≡ false)) ⊎
      (fired_by (machine d) d.state.journal p ≡ told)
  tells_all d (served.Fired q) h = inl (h.1, h.2)
  tells_all d (served.Waiting a missing by) h = inr h.0
  tells_all d served.Ended h = inr h.0
  tells_all d (served.TookUp a) h = inr h.0

  waits_of : (d : TableState) → Own p t d → (s : Served) → TellsServed s told p d → IsPending v → Stays v (given_back 0 d (tried 0 t v))
  waits_of _ OwnNone s h e = stays_none
  waits_of _ (OwnFiring a rs mine) s h e = stays_firing a rs mine
  waits_of _ (OwnArrival a ready nxt short) s h e = absurd (let u = untold e ready.1 in ⊎_elim (λ f. false_true (sym f.0 ∙ away_once_arrived))
      (λ f. let l : told + 1 ≡ told = sym u ∙ f in omega arith) (tells_all (arrives p t) s h))
  waits_of _ (OwnTakeUp a ready nxt full) s h e = absurd (let u = untold e ready.1 in ⊎_elim (λ f. false_true (sym f.0 ∙ away_once_arrived))
      (λ f. let l : told + 1 ≡ told = sym u ∙ f in omega arith) (tells_all (takes_up a p (arrives p t)) s h))
  waits_of _ (OwnEnding spent) s h e = absurd (elim (cases_Bool (is_in t.state.arrived p)) [
    | inl here ↦ no_end_here spent here
    | inr away ↦ let u = untold e away in ⊎_elim (λ f. false_true (sym f.1 ∙ gone_once_ended)) (λ f. let l : told + 1 ≡ told = sym u ∙ f in omega arith)
        (tells_all (ends_script p t) s h)
  ])

  -- the hold as its answer says
  module _ (d : TableState) (own : Own p t d) where
    full_not_over : (a : ℕ) → hand d.hands a ≡ Some p → IsOver (machine d) d.state → ⊥
    full_not_over a mine o = let c = only (own_covered p t d k.fit k.covered own) a p mine in false_true (sym (o.quiet a c.0) ∙ c.1)

    fired_of : (s : Served) (over : Bool) → TellsServed s told p d → places (machine d) p d.state.journal ≡ with_fired (answered s over) (first_fired v.notes)
    fired_of (served.Fired at) over h = fired_next d at own h.0
    fired_of (served.Waiting a missing by) true h = fired_same d own h.0
    fired_of (served.Waiting a missing by) false h = fired_same d own h.0
    fired_of served.Ended over h = fired_same d own h.0
    fired_of (served.TookUp a) over h = fired_same d own h.0

    says_of : (s : Served) (over : Bool) → TellsServed s told p d → ((a : ℕ) → letter_number (letter_after s) ≡ Some a → letter ≡ None)
        → hand_of d p ≡ letter_number (letter_after s) → (IsTrue over ↔ IsOver (machine d) d.state)
        → Says p (answered s over) v (given_back (cond over 2 0) d (tried 0 t v))
    says_of (served.Fired at) true h new found is = (refl, (h.0.0, h.0.1, h.0.2 ∙ sym told_all))
    says_of (served.Fired at) false h new found is = (refl, (h.0.0, h.0.1, h.0.2 ∙ sym told_all))
    says_of (served.Waiting a missing by) true h new found is = (refl, inr (refl, is.0 refl))
    says_of (served.Waiting a missing by) false h new found is = (refl, h.1)
    says_of served.Ended true h new found is = (refl, h.1)
    says_of served.Ended false h new found is = (refl, h.1)
    says_of (served.TookUp a) true h new found is = absurd (full_not_over a.0 h.1 (is.0 refl))
    says_of (served.TookUp a) false h new found is = (refl, refl, hand_is ∙ new a.0 refl, (a.0, hand_after d ∙ found, h.1))

    sound : IsSound (machine d) d.state
    sound = reached-sound (machine d) d.state (own_reached p t d k.fit k.covered k.reached own)

    here_after : (a : ℕ) → hand d.hands a ≡ Some p → is_in d.state.arrived p ≡ true
    here_after a mine = let o = only (own_covered p t d k.fit k.covered own) a p mine in (parts (machine d) d.state a p o.1 o.2).0

    -- a process that has ended is answered so
    ended_of : (s : Served) (over : Bool) → TellsServed s told p d → is_in d.state.ended p ≡ true → answered s over ≡ Some Ended
    ended_of (served.Fired q) over h e = absurd (false_true (sym h.2 ∙ e))
    ended_of (served.Waiting a missing by) over h e = absurd (not_both (machine d) d.state sound p h.1.arrived e)
    ended_of served.Ended over h e = refl
    ended_of (served.TookUp a) over h e = absurd (not_both (machine d) d.state sound p (here_after a.0 h.1) e)

    -- so is one with an event that was not told of
    no_more : (at : ℕ) → fired_by (machine d) d.state.journal p ≡ told → IsLast p (length (first_fired v.notes)) at d → ⊥
    no_more at as_many last = let l = length_places (machine d) p d.state.journal in let m = ap length last.1 in let n = length-append last.0 (at ∷ []) in
        let z = last.2 in let y = told_all in omega arith

    fires_of : (s : Served) (over : Bool) → TellsServed s told p d → (at : ℕ) → IsLast p (length (first_fired v.notes)) at d → answered s over ≡ Some (Fired at)
    fires_of (served.Fired q) over h at last = ap (λ (x : ℕ). Some (Fired x)) (same_last h.0.0 last.0 q at (sym h.0.1 ∙ last.1)
        (let x = h.0.2 in let y = last.2 in let z = told_all in omega arith))
    fires_of (served.Waiting a missing by) over h at last = absurd (no_more at h.0 last)
    fires_of served.Ended over h at last = absurd (no_more at h.0 last)
    fires_of (served.TookUp a) over h at last = absurd (no_more at h.0 last)

    pub try_held : (s : Served) (over : Bool) → TellsServed s told p d → ((a : ℕ) → letter_number (letter_after s) ≡ Some a → letter ≡ None)
        → hand_of d p ≡ letter_number (letter_after s) → (IsTrue over ↔ IsOver (machine d) d.state)
        → Try p v (answered s over) (given_back (cond over 2 0) d (tried 0 t v))
    try_held s over h new found is = record {
      given = refl;
      tries = refl;
      found = omega arith;
      free = refl;
      held = λ _. record { reached = k.reached; own = own; fired = fired_after d; ended = ended_after d };
      refused = λ ne. absurd (ne refl);
      fired = fired_after d ∙ fired_of s over h;
      says = says_of s over h new found is;
      ended = λ g. ended_of s over h g.1;
      fires = λ at g. fires_of s over h at g.1;
      busy = λ e. absurd (omega arith);
      moves = moves_of d own s over h;
      waits = waits_of d own s h;
    }

-- a try that found the turn taken, or all over
pub try_refused : (p : ℕ) (v : View) (n : ℕ) (t : TableState) → (n ≡ 1) ⊎ (n ≡ 2) → Try p v (Some (cond (eqb n 2) Over Busy)) (tried n t v)
try_refused p v n t (inl one) = subst (λ (m : ℕ). Try p v (Some (cond (eqb m 2) Over Busy)) (tried m t v)) (sym one) record {
  given = refl;
  tries = refl;
  found = omega arith;
  free = refl;
  held = λ e. absurd (omega (arith, e));
  refused = λ _. refl;
  fired = refl;
  says = refl;
  ended = λ g. let e = g.0 in absurd (omega arith);
  fires = λ at g. let e = g.0 in absurd (omega arith);
  busy = λ _. refl;
  moves = inl (refl, refl);
  waits = λ _. (refl, refl);
}
try_refused p v n t (inr two) = subst (λ (m : ℕ). Try p v (Some (cond (eqb m 2) Over Busy)) (tried m t v)) (sym two) record {
  given = refl;
  tries = refl;
  found = omega arith;
  free = refl;
  held = λ e. absurd (omega (arith, e));
  refused = λ _. refl;
  fired = refl;
  says = (refl, inl refl);
  ended = λ g. let e = g.0 in absurd (omega arith);
  fires = λ at g. let e = g.0 in absurd (omega arith);
  busy = λ e. absurd (omega (arith, e));
  moves = inl (refl, refl);
  waits = λ _. (refl, refl);
}

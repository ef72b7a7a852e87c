-- What the events of one process in one hold do to a table, and to what is noted of all.
use Rattle.std.proofs.Common.{◌≡◌, ◌≢◌, ℕ, zero, suc, ◌+◌, ◌<◌, true, false, cond, inl, inr, ⊎_elim, List, [], ◌∷◌, ◌++◌, length, set, refl, sym, ap, subst}
use Rattle.std.proofs.Common.{◌∙◌, arith, Option, Some, None, length-set, get_or-set_same, get_or-set_other, eqb, eqb-true, eq-eqb}
use Rattle.std.proofs.lemmas.Bool.{cases_Bool, cases_eq}
use Rattle.std.proofs.lemmas.Option.{none-some}
use Rattle.za_alpha.specs.Words.{has}
use Rattle.za_machine.specs.Machine.{Machine, State, is_in, fired_by, next, is_complete, without, arrive, fire, Arrive, Fire, End, IsMachineState}
use Rattle.za_machine.specs.Private.Standing.{IsSound}
use Rattle.za_machine.proofs.States.{reached-sound, reached_more, not_both, fired_by-other, fired_by-own}
use Rattle.za_table.specs.Tables.{TableState}
use Rattle.za_hall.specs.Own.{machine, arrives, ends_script, takes_up, settles, Own, OwnNone, OwnArrival, OwnTakeUp, OwnFiring, OwnEnding}
use Rattle.za_machine.specs.Hands.{hand}
use Rattle.za_shared.specs.Records.{Records}
use Rattle.za_hall.specs.Places.{places}
use Rattle.za_hall.specs.Views.{Note}
use Rattle.za_hall.specs.Rule.{IsFit, IsCovered, FiredOk, NoteOk}
use Rattle.za_hall.specs.Steps.{noted, hand_of, hand_from}
use Rattle.za_hall.proofs.Letters.{false_true, same_some, parts, whole, one_next, stays, still, same_next, places_own, places_other}

-- what covering says of hands
pub hands_size : {t : TableState} → IsCovered t → length t.hands ≡ (machine t).letters
hands_size c = c.in_hand.size

pub only : {t : TableState} → IsCovered t → (a p : ℕ) → hand t.hands a ≡ Some p → (a < (machine t).letters) × (is_complete (machine t) t.state a ≡ true) ×
    (has ((machine t).loc a) p ≡ true)
only c a p h = let o = c.in_hand.each a p h in (o.letter, o.complete, o.own)

pub covers : (t : TableState) → length t.hands ≡ (machine t).letters
    → ((a : ℕ) → a < (machine t).letters → is_complete (machine t) t.state a ≡ true → (p : ℕ) × (hand t.hands a ≡ Some p))
    → ((a p : ℕ) → hand t.hands a ≡ Some p → (a < (machine t).letters) × (is_complete (machine t) t.state a ≡ true) × (has ((machine t).loc a) p ≡ true))
    → IsCovered t
covers t size taken only = record {
  in_hand = record { size = size; each = λ a p h. let o = only a p h in record { letter = o.0; complete = o.1; own = o.2 } };
  taken = taken;
}

-- hands
pub hand_same : (hs : List (Option ℕ)) (a : ℕ) (x : Option ℕ) → a < length hs → hand (set hs a x) a ≡ x
hand_same hs a x l = get_or-set_same hs a x None l

pub hand_other : (hs : List (Option ℕ)) (a b : ℕ) (x : Option ℕ) → b ≢ a → hand (set hs a x) b ≡ hand hs b
hand_other hs a b x ne = get_or-set_other hs a b x None ne

module _ (t : TableState) (fit : IsFit (machine t)) (cov : IsCovered t) where
  m : Machine
  m = machine t

  c : State
  c = t.state

  within : (a : ℕ) → a < (machine t).letters → a < length t.hands
  within a l = let e = hands_size cov in omega arith

  -- who has not arrived has no letter in hand
  pub absent_free : (p a q : ℕ) → is_in t.state.arrived p ≡ false → has ((machine t).loc a) p ≡ true → hand t.hands a ≡ Some q → ⊥
  absent_free p a q away mine h = let o = only cov a q h in false_true (sym away ∙ (parts (machine t) t.state a p o.1 mine).0)

  -- an arrival keeps what was complete
  arrival_keeps : (p b : ℕ) → is_in t.state.arrived p ≡ false → is_complete (machine t) t.state b ≡ true → is_complete (machine t) (arrive p t.state) b ≡ true
  arrival_keeps p b away full = whole (machine t) (arrive p t.state) b (λ q mine.
      let f = parts (machine t) t.state b q full mine in
      let other : q ≢ p = λ (e : q ≡ p). false_true (sym away ∙ (ap (is_in t.state.arrived) (sym e) ∙ f.0)) in
      (get_or-set_other t.state.arrived p q true false other ∙ f.0, f.1))

  -- and completes only a letter of its process
  arrival_completes : (p b : ℕ) → has ((machine t).loc b) p ≡ false → is_complete (machine t) (arrive p t.state) b ≡ true → is_complete
      (machine t) t.state b ≡ true
  arrival_completes p b out full = whole (machine t) t.state b (λ q mine.
      let f = parts (machine t) (arrive p t.state) b q full mine in
      let other : q ≢ p = λ (e : q ≡ p). false_true (sym out ∙ (ap (has ((machine t).loc b)) (sym e) ∙ mine)) in
      (sym (get_or-set_other t.state.arrived p q true false other) ∙ f.0, f.1))

  -- an arrival that completes no letter
  pub arrival_covered : (p a : ℕ) → is_in t.state.arrived p ≡ false → next (machine t) t.state.journal p ≡ Some a → is_complete (machine t)
      (arrive p t.state) a ≡ false → IsCovered (arrives p t)
  arrival_covered p a away nxt short = covers (arrives p t) (hands_size cov)
      (λ b lb full. elim (cases_Bool (has ((machine t).loc b) p)) [
        | inl mine ↦ absurd (let f = parts (machine t) (arrive p t.state) b p full mine in let e : b ≡ a = same_some b a (sym f.1 ∙ nxt) in
            false_true (sym short ∙ (ap (is_complete (machine t) (arrive p t.state)) (sym e) ∙ full)))
        | inr out ↦ cov.taken b lb (arrival_completes p b out full)
      ])
      (λ b q h. let o = only cov b q h in (o.0, arrival_keeps p b away o.1, o.2))

  -- an arrival that completes a letter, which is taken up
  pub take_up_covered : (p a : ℕ) → is_in t.state.arrived p ≡ false → a < (machine t).letters → has ((machine t).loc a) p ≡ true → next
      (machine t) t.state.journal p ≡ Some a → is_complete (machine t) (arrive p t.state) a ≡ true → IsCovered (takes_up a p (arrives p t))
  take_up_covered p a away la own nxt full = covers (takes_up a p (arrives p t)) (length-set t.hands a (Some p) ∙ hands_size cov)
      (λ b lb done. elim (cases_eq b a) [
        | inl e ↦ (p, ap (hand (set t.hands a (Some p))) e ∙ hand_same t.hands a (Some p) (within a la))
        | inr ne ↦ elim (cases_Bool (has ((machine t).loc b) p)) [
          | inl mine ↦ absurd (ne (one_next (machine t) (arrive p t.state) b a p done full mine own))
          | inr out ↦ let k = cov.taken b lb (arrival_completes p b out done) in (k.0, hand_other t.hands a b (Some p) ne ∙ k.1)
        ]
      ])
      (λ b q h. elim (cases_eq b a) [
        | inl e ↦
            let q_is : p ≡ q = same_some p q (sym (ap (hand (set t.hands a (Some p))) e ∙ hand_same t.hands a (Some p) (within a la)) ∙ h) in
            let P : ℕ → ℕ → Type 0 = λ x y. (x < (machine t).letters) × (is_complete (machine t) (arrive p t.state) x ≡ true) ×
            (has ((machine t).loc x) y ≡ true) in
            subst (λ (z : ℕ × ℕ). P z.0 z.1) (λ i. (sym e i, q_is i)) (la, full, own)
        | inr ne ↦ let o = only cov b q (sym (hand_other t.hands a b (Some p) ne) ∙ h) in (o.0, arrival_keeps p b away o.1, o.2)
      ])

  -- the firing of a letter in hand
  pub firing_covered : (p a : ℕ) (rs : Records) → hand t.hands a ≡ Some p → IsCovered (settles a rs t)
  firing_covered p a rs mine = covers (settles a rs t) (length-set t.hands a None ∙ hands_size cov)
      (λ b lb done. let f = before b done in
      let s = fit.alphabet.some b lb in
      let ne : b ≢ a = λ (e : b ≡ a). false_true (sym (apart_from b s.0 done s.1) ∙ (ap (λ (x : ℕ). has ((machine t).loc x) s.0) (sym e) ∙ s.1)) in
      let k = cov.taken b lb f in (k.0, hand_other t.hands a b None ne ∙ k.1))
      (λ b q h. elim (cases_eq b a) [
        | inl e ↦ absurd (none-some q (sym (ap (hand (set t.hands a None)) e ∙ hand_same t.hands a None (within a o.0)) ∙ h))
        | inr ne ↦ let k = only cov b q (sym (hand_other t.hands a b None ne) ∙ h) in (k.0, later b ne k.1, k.2)
      ])
    where
      o : (a < (machine t).letters) × (is_complete (machine t) t.state a ≡ true) × (has ((machine t).loc a) p ≡ true)
      o = only cov a p mine

      -- a participant of a letter that is complete afterwards is none of the letter
      apart_from : (b q : ℕ) → is_complete (machine t) (fire (machine t).loc a t.state) b ≡ true → has ((machine t).loc b) q ≡ true → has
          ((machine t).loc a) q ≡ false
      apart_from b q done own = (stays (machine t) t.state a q (parts (machine t) (fire (machine t).loc a t.state) b q done own).0).1

      before : (b : ℕ) → is_complete (machine t) (fire (machine t).loc a t.state) b ≡ true → is_complete (machine t) t.state b ≡ true
      before b done = whole (machine t) t.state b (λ q own.
          let f = parts (machine t) (fire (machine t).loc a t.state) b q done own in let k = stays (machine t) t.state a q f.0 in
          (k.0, sym (same_next (machine t) t.state a q k.1) ∙ f.1))

      later : (b : ℕ) → b ≢ a → is_complete (machine t) t.state b ≡ true → is_complete (machine t) (fire (machine t).loc a t.state) b ≡ true
      later b ne full = whole (machine t) (fire (machine t).loc a t.state) b (λ q own.
          let f = parts (machine t) t.state b q full own in
          let out : has ((machine t).loc a) q ≡ false = elim (cases_Bool (has ((machine t).loc a) q)) [
            | inl both ↦ absurd (ne (one_next (machine t) t.state b a q full o.1 own both))
            | inr k ↦ k
          ] in
          (still (machine t) t.state a q out ∙ f.0, same_next (machine t) t.state a q out ∙ f.1))

  -- notes, seen by another
  arrival_kept : (p : ℕ) (n : Note) → n.number ≢ p → NoteOk t n → NoteOk (arrives p t) n
  arrival_kept p n other ok = let e : is_in (set t.state.arrived p true) n.number ≡ is_in t.state.arrived n.number =
      get_or-set_other t.state.arrived p n.number true false other in record {
        inside = ok.inside;
        arrivals = ok.arrivals ∙ ap (λ b. fired_by (machine t) t.state.journal n.number + cond b 1 0) (sym e);
        ended = ok.ended;
        fired = ⊎_elim inl (λ k. inr (e ∙ k.0, k.1, k.2)) ok.fired;
        has = ok.has;
        held = ok.held;
      }

  ending_kept : (p : ℕ) (n : Note) → n.number ≢ p → NoteOk t n → NoteOk (ends_script p t) n
  ending_kept p n other ok = let e : is_in (set t.state.ended p true) n.number ≡ is_in t.state.ended n.number =
      get_or-set_other t.state.ended p n.number true false other in record {
        inside = ok.inside;
        arrivals = ok.arrivals;
        ended = ok.ended ∙ sym e;
        fired = ⊎_elim inl (λ k. inr (k.0, e ∙ k.1, k.2)) ok.fired;
        has = ok.has;
        held = ok.held;
      }

  -- a change of the hand of a letter that p gets or gives up is none of another's
  hands_kept : (p a : ℕ) (x : Option ℕ) (n : Note) → n.number ≢ p → a < (machine t).letters → ((q : ℕ) → x ≡ Some q → q ≡ p) →
      ((q : ℕ) → hand t.hands a ≡ Some q → q ≡ p) → NoteOk t n
      → ((b : ℕ) → hand (set t.hands a x) b ≡ Some n.number → n.hand ≡ Some b) × ((b : ℕ) → n.hand ≡ Some b → hand (set t.hands a x) b ≡ Some n.number)
  hands_kept p a x n other la new old ok = (
    λ b h. elim (cases_eq b a) [
      | inl e ↦ absurd (other (new n.number (sym (ap (hand (set t.hands a x)) e ∙ hand_same t.hands a x (within a la)) ∙ h)))
      | inr ne ↦ ok.has b (sym (hand_other t.hands a b x ne) ∙ h)
    ],
    λ b h. elim (cases_eq b a) [
      | inl e ↦ absurd (other (old n.number (ap (hand t.hands) (sym e) ∙ ok.held b h)))
      | inr ne ↦ hand_other t.hands a b x ne ∙ ok.held b h
    ],
  )

  -- a firing, seen by anyone: the counts and positions
  pub firing_fired : (a : ℕ) (rs : Records) (n : Note) → IsSound (machine t) t.state → is_complete (machine t) t.state a ≡ true → NoteOk t n
      → (n.arrivals ≡ fired_by (machine t) (t.state.journal ++ a ∷ []) n.number + cond (is_in (without ((machine t).loc a) 0 t.state.arrived) n.number) 1 0)
      × FiredOk (settles a rs t) n.number n.fired
  firing_fired a rs n sound full ok = elim (cases_Bool (has ((machine t).loc a) n.number)) [
    | inl mine ↦
        let here = (parts (machine t) t.state a n.number full mine).0 in
        let away = gone n.number mine in
        let more = fired_by-own (machine t) t.state.journal a n.number mine in
        let x = ap (λ b. cond {A = ℕ} b 1 0) here in let y = ap (λ b. cond {A = ℕ} b 1 0) away in let z = ok.arrivals in
        let ended : is_in t.state.ended n.number ≡ false = elim (cases_Bool (is_in t.state.ended n.number)) [
          | inl e ↦ absurd
              (not_both (machine t) t.state sound n.number here e)
          | inr f ↦ f
        ] in
        let all : n.fired ≡ places (machine t) n.number t.state.journal = ⊎_elim (λ e. e) (λ k. absurd (false_true (sym k.0 ∙ here))) ok.fired in (
          omega arith,
          inr (
            away,
            ended,
            (
              length t.state.journal,
              places_own (machine t) n.number a t.state.journal mine
                  ∙ ap (λ xs. xs ++ length t.state.journal ∷ []) (sym all),
            ),
          ),
        )
    | inr out ↦
        let same = still (machine t) t.state a n.number out in
        let as_many = ap length (fired_by-other (machine t) t.state.journal a n.number out) in
        let there = places_other (machine t) n.number a t.state.journal out in
        let x = ap (λ b. cond {A = ℕ} b 1 0) same in let z = ok.arrivals in
        (omega arith, ⊎_elim (λ e. inl (e ∙ sym there)) (λ k. inr (same ∙ k.0, k.1, (k.2.0, there ∙ k.2.1))) ok.fired)
  ]
    where
      gone : (q : ℕ) → has ((machine t).loc a) q ≡ true → is_in (without ((machine t).loc a) 0 t.state.arrived) q ≡ false
      gone q mine = elim (cases_Bool (is_in (without ((machine t).loc a) 0 t.state.arrived) q)) [
        | inl there ↦ absurd (false_true (sym (stays (machine t) t.state a q there).1 ∙ mine))
        | inr f ↦ f
      ]

-- the state that the events lead to is reached
pub own_reached : (p : ℕ) (t d : TableState) → IsFit (machine t) → IsCovered t → IsMachineState (machine t) t.state → Own p t d → IsMachineState
    (machine d) d.state
own_reached p t _ fit cov r OwnNone = r
own_reached p t _ fit cov r (OwnArrival a ready nxt short) = reached_more (machine t) t.state (Arrive p) r ready
own_reached p t _ fit cov r (OwnTakeUp a ready nxt full) = reached_more (machine t) t.state (Arrive p) r ready
own_reached p t _ fit cov r (OwnFiring a rs mine) = let o = only cov a p mine in reached_more (machine t) t.state (Fire a) r (o.0, o.1)
own_reached p t _ fit cov r (OwnEnding spent) = reached_more (machine t) t.state (End p) r spent

-- each complete letter is still in hand, and no other
pub own_covered : (p : ℕ) (t d : TableState) → IsFit (machine t) → IsCovered t → Own p t d → IsCovered d
own_covered p t _ fit cov OwnNone = cov
own_covered p t _ fit cov (OwnArrival a ready nxt short) = arrival_covered t fit cov p a ready.1 nxt short
own_covered p t _ fit cov (OwnTakeUp a ready nxt full) = let o = fit.own p (fired_by (machine t) t.state.journal p) a nxt in
    take_up_covered t fit cov p a ready.1 o.0 o.1 nxt full
own_covered p t _ fit cov (OwnFiring a rs mine) = firing_covered t fit cov p a rs mine
own_covered p t _ fit cov (OwnEnding spent) = covers (ends_script p t) (hands_size cov) cov.taken (only cov)

-- THE LAW: the events of one process keep what is noted of each other
pub own_keeps : (p : ℕ) (t d : TableState) → IsFit (machine t) → IsCovered t → IsMachineState (machine t) t.state → Own p t d → (n : Note) → n.number ≢ p
    → NoteOk t n → NoteOk d n
own_keeps p t _ fit cov r OwnNone n other ok = ok
own_keeps p t _ fit cov r (OwnArrival a ready nxt short) n other ok = arrival_kept t fit cov p n other ok
own_keeps p t _ fit cov r (OwnTakeUp a ready nxt full) n other ok =
    let o = fit.own p (fired_by (machine t) t.state.journal p) a nxt in
    let k = arrival_kept t fit cov p n other ok in
    let h = hands_kept t fit cov p a (Some p) n other o.0 (λ q e. same_some q p (sym e)) (λ q e. absurd (absent_free t fit cov p a q ready.1 o.1 e)) ok in
    record { inside = k.inside; arrivals = k.arrivals; ended = k.ended; fired = k.fired; has = h.0; held = h.1 }
own_keeps p t _ fit cov r (OwnFiring a rs mine) n other ok =
    let o = only cov a p mine in
    let f = firing_fired t fit cov a rs n (reached-sound (machine t) t.state r) o.1 ok in
    let h = hands_kept t fit cov p a None n other o.0 (λ q e. absurd (none-some q e)) (λ q e. same_some q p (sym e ∙ mine)) ok in
    record { inside = ok.inside; arrivals = f.0; ended = ok.ended; fired = f.1; has = h.0; held = h.1 }
own_keeps p t _ fit cov r (OwnEnding spent) n other ok = ending_kept t fit cov p n other ok

pub own_given : (p : ℕ) (t d : TableState) → Own p t d → d.given ≡ t.given
own_given p t _ OwnNone = refl
own_given p t _ (OwnArrival a ready nxt short) = refl
own_given p t _ (OwnTakeUp a ready nxt full) = refl
own_given p t _ (OwnFiring a rs mine) = refl
own_given p t _ (OwnEnding spent) = refl

-- who has which letter, as a search finds it
module _ (p : ℕ) where
  hand_found : (k : ℕ) (hs : List (Option ℕ)) (a : ℕ) → hand_from k hs p ≡ Some a → (i : ℕ) × (a ≡ k + i) × (hand hs i ≡ Some p)
  hand_found k [] a e = absurd (none-some a e)
  hand_found k (None ∷ hs) a e = let r = hand_found (suc k) hs a e in (suc r.0, (let l = r.1 in omega arith), r.2)
  hand_found k (Some q ∷ hs) a e = elim (cases_Bool (eqb q p)) [
    | inl y ↦ (0, (let l = same_some k a (sym (ap (λ b. cond b (Some k) (hand_from (suc k) hs p)) y) ∙ e) in omega arith), ap Some (eqb-true q p y))
    | inr n ↦ let r = hand_found (suc k) hs a (sym (ap (λ b. cond b (Some k) (hand_from (suc k) hs p)) n) ∙ e) in (suc r.0, (let l = r.1 in omega arith), r.2)
  ]

  hand_there : (k : ℕ) (hs : List (Option ℕ)) (i : ℕ) → hand hs i ≡ Some p → (a : ℕ) × (hand_from k hs p ≡ Some a)
  hand_there k [] i e = absurd (none-some p e)
  hand_there k (None ∷ hs) zero e = absurd (none-some p e)
  hand_there k (None ∷ hs) (suc i) e = hand_there (suc k) hs i e
  hand_there k (Some q ∷ hs) zero e = (k, ap (λ b. cond b (Some k) (hand_from (suc k) hs p)) (eq-eqb q p (same_some q p e)))
  hand_there k (Some q ∷ hs) (suc i) e = elim (cases_Bool (eqb q p)) [
    | inl y ↦ (k, ap (λ b. cond b (Some k) (hand_from (suc k) hs p)) y)
    | inr n ↦ let r = hand_there (suc k) hs i e in (r.0, ap (λ b. cond b (Some k) (hand_from (suc k) hs p)) n ∙ r.1)
  ]

  pub hand_is : (t : TableState) (a : ℕ) → hand_of t p ≡ Some a → hand t.hands a ≡ Some p
  hand_is t a e = let r = hand_found 0 t.hands a e in let l : a ≡ r.0 = (let z = r.1 in omega arith) in ap (hand t.hands) l ∙ r.2

  -- a process has one letter in hand
  pub hand_one : (t : TableState) → IsCovered t → (a b : ℕ) → hand t.hands a ≡ Some p → hand t.hands b ≡ Some p → a ≡ b
  hand_one t cov a b x y = let o = only cov a p x in let u = only cov b p y in one_next (machine t) t.state a b p o.1 u.1 o.2 u.2

  pub hand_has : (t : TableState) → IsCovered t → (a : ℕ) → hand t.hands a ≡ Some p → hand_of t p ≡ Some a
  hand_has t cov a e = let r = hand_there 0 t.hands a e in r.1 ∙ ap Some (hand_one t cov r.0 a (hand_is t r.0 r.1) e)

  pub hand_none : (t : TableState) → ((a : ℕ) → hand t.hands a ≡ Some p → ⊥) → hand_of t p ≡ None
  hand_none t free = go (hand_of t p) refl
    where
      go : (o : Option ℕ) → hand_of t p ≡ o → o ≡ None
      go None e = refl
      go (Some a) e = absurd (free a (hand_is t a e))

-- the note of the process itself
pub note_own : (t : TableState) (n : Note) → IsCovered t → n.number < (machine t).processes → NoteOk t (noted t n)
note_own t n cov inside = record {
  inside = inside;
  arrivals = refl;
  ended = refl;
  fired = inl refl;
  has = λ a e. hand_has n.number t cov a e;
  held = λ a e. hand_is n.number t a e;
}

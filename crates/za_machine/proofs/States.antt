-- The laws of the core machine.
use Rattle.std.proofs.Common.{◌≡◌, ◌≢◌, ℕ, zero, suc, ◌+◌, ◌*◌, ◌<◌, ◌≤◌, ◌⊎◌, ◌||◌, ◌&&◌, ◌↔◌, not, Bool, true, false, inl, inr, List, [], ◌∷◌, ◌++◌, length}
use Rattle.std.proofs.Common.{replicate, refl, sym, ap, subst, ◌∙◌, arith, cond, None, ltb-true, eqb-true, length-append, length-set, append-nil}
use Rattle.std.proofs.Common.{get_or-set_other, get_or-set_same, nat_lt, ◌==◌, slice_index, slice_set}
use Rattle.std.specs.List.{list_all}
use Rattle.std.proofs.lemmas.Bool.{cases_Bool, cases_lt, cases_eq, and_parts, and_from, or_cases}
use Rattle.std.proofs.lemmas.Option.{slice_get_past, slice_get-get_or}
use Rattle.std.proofs.lemmas.List.{length-replicate}
use Rattle.std.proofs.lemmas.List.Elements.{filter-append}
use Rattle.za_alpha.specs.Words.{has, projection, AreEquivalent}
use Rattle.za_alpha.specs.Search.{least}
use Rattle.za_script.specs.Scripts.{comes_next, is_enabled, total, weave, Fits, FitsMaximally, Weaves}
use Rattle.za_alpha.proofs.Swaps.{seen-take, seen-skip}
use Rattle.za_script.proofs.Lists.{all-at, all-from, all-fails, same_front}
use Rattle.za_alpha.proofs.Least.{least-true, least-below}
use Rattle.za_script.proofs.Confluence.{fits-more, fits-length, empty-fits, maximal-one}
use Rattle.za_machine.specs.Machine.{Machine, IsMachine, State, is_in, fired_by, next, is_complete, IsOver, initial, without, Event, Arrive, Fire, End, arrive}
use Rattle.za_machine.specs.Machine.{fire, end_at, after_event, IsAllowed, run, AreAllowed, IsMachineState}
use Rattle.za_machine.specs.Private.Standing.{IsSound, sum_to, share, events_of}

false_true : false ≡ true → ⊥
false_true e = cc

pub all-second : (s t : ℕ → Bool) (ps : List ℕ) → list_all (λ p. s p && t p) ps ≡ true → list_all t ps ≡ true
all-second s t [] h = refl
all-second s t (p ∷ ps) h =
    let b = and_parts (s p && t p) (list_all (λ p. s p && t p) ps) h in
    and_from (t p) (list_all t ps) (and_parts (s p) (t p) b.0).1 (all-second s t ps b.1)

pub at-initial : (n p : ℕ) → is_in (replicate n false) p ≡ false
at-initial zero p = refl
at-initial (suc n) zero = refl
at-initial (suc n) (suc p) = at-initial n p

and_true : (b : Bool) → (b && true) ≡ b
and_true true = refl
and_true false = refl

at-without_from : (ps : List ℕ) (k : ℕ) (bs : List Bool) (p : ℕ) → is_in (without ps k bs) p ≡ (is_in bs p && not (has ps (k + p)))
at-without_from ps k [] p = refl
at-without_from ps k (b ∷ bs) zero = let e : k ≡ k + 0 = omega arith in ap (λ (i : ℕ). b && not (has ps i)) e
at-without_from ps k (b ∷ bs) (suc p) = let e : suc k + p ≡ k + suc p = omega arith in at-without_from ps (suc k) bs p
    ∙ ap (λ (i : ℕ). is_in bs p && not (has ps i)) e

pub at-without : (ps : List ℕ) (bs : List Bool) (p : ℕ) → is_in (without ps 0 bs) p ≡ (is_in bs p && not (has ps p))
at-without ps bs p = let z : 0 + p ≡ p = omega arith in at-without_from ps 0 bs p ∙ ap (λ (i : ℕ). is_in bs p && not (has ps i)) z

length-without_from : (ps : List ℕ) (k : ℕ) (bs : List Bool) → length (without ps k bs) ≡ length bs
length-without_from ps k [] = refl
length-without_from ps k (b ∷ bs) = ap suc (length-without_from ps (suc k) bs)

pub length-without : (ps : List ℕ) (bs : List Bool) → length (without ps 0 bs) ≡ length bs
length-without ps bs = length-without_from ps 0 bs

at_within : (bs : List Bool) (p : ℕ) → is_in bs p ≡ true → p < length bs
at_within [] p e = absurd (false_true e)
at_within (b ∷ bs) zero e = omega arith
at_within (b ∷ bs) (suc p) e = let h = at_within bs p e in omega arith

-- sums
sum-same : (f g : ℕ → ℕ) (n : ℕ) → ((q : ℕ) → q < n → g q ≡ f q) → sum_to g n ≡ sum_to f n
sum-same f g zero h = refl
sum-same f g (suc n) h = let a = sum-same f g n (λ q l. h q (omega arith)) in let b = h n (omega arith) in omega arith

sum-more : (f g : ℕ → ℕ) (n p : ℕ) → p < n → g p ≡ f p + 1 → ((q : ℕ) → q ≢ p → g q ≡ f q) → sum_to g n ≡ sum_to f n + 1
sum-more f g zero p l e h = absurd (omega arith)
sum-more f g (suc n) p l e h =
    elim (cases_eq p n) [
      | inl k ↦
          let a = sum-same f g n (λ q m. h q (λ (z : q ≡ p). omega arith)) in
          let b : g n ≡ f n + 1 = subst (λ i. g i ≡ f i + 1) k e in omega arith
      | inr k ↦
          let a = sum-more f g n p (omega arith) e h in
          let b = h n (λ (z : n ≡ p). k (sym z)) in omega arith
    ]

sum-le : (f : ℕ → ℕ) (scripts : ℕ → List ℕ) (n : ℕ) → ((q : ℕ) → q < n → f q ≤ length (scripts q) + 1) → sum_to f n ≤ total scripts n + n
sum-le f scripts zero h = omega arith
sum-le f scripts (suc n) h = let a = sum-le f scripts n (λ q l. h q (omega arith)) in let b = h n (omega arith) in omega arith

sum-zero : (f : ℕ → ℕ) (n : ℕ) → ((q : ℕ) → f q ≡ 0) → sum_to f n ≡ 0
sum-zero f zero h = refl
sum-zero f (suc n) h = let a = sum-zero f n h in let b = h n in omega arith

module _ (j : Machine) where
  -- the letter a after the word
  pub fired_by-own : (w : List ℕ) (a p : ℕ) → has (j.loc a) p ≡ true → fired_by j (w ++ a ∷ []) p ≡ fired_by j w p + 1
  fired_by-own w a p t =
      let e = ap length (filter-append (λ b. has (j.loc b) p) w (a ∷ [])) ∙ length-append (projection j.loc p w) (projection j.loc p (a ∷ [])) in
      let z = ap length (seen-take j.loc p a [] t) in omega arith

  pub fired_by-other : (w : List ℕ) (a p : ℕ) → has (j.loc a) p ≡ false → projection j.loc p (w ++ a ∷ []) ≡ projection j.loc p w
  fired_by-other w a p t =
      filter-append (λ b. has (j.loc b) p) w (a ∷ []) ∙ ap (λ x. projection j.loc p w ++ x) (seen-skip j.loc p a [] t) ∙ append-nil (projection j.loc p w)

  -- a word that fits shows a process its script exactly if no letter is left
  pub fired_by-le : (w : List ℕ) (p : ℕ) → Fits j.loc j.letters j.scripts w → fired_by j w p ≤ length (j.scripts p)
  fired_by-le w p f = let k = f.prefix p in let e = ap length (sym k.1) ∙ length-append (projection j.loc p w) k.0 in omega arith

  pub used_up : (w : List ℕ) (p : ℕ) → Fits j.loc j.letters j.scripts w → length (j.scripts p) ≤ fired_by j w p → projection j.loc p w ≡ j.scripts p
  used_up w p f l =
      let k = f.prefix p in
      let e = ap length (sym k.1) ∙ length-append (projection j.loc p w) k.0 in
      same_front (projection j.loc p w) k.0 (j.scripts p) [] (k.1 ∙ sym (append-nil (j.scripts p))) (omega arith)

  pub none_left : (w : List ℕ) (p : ℕ) → Fits j.loc j.letters j.scripts w → next j w p ≡ None → projection j.loc p w ≡ j.scripts p
  none_left w p f e = used_up w p f (elim (cases_lt (fired_by j w p) (length (j.scripts p))) [
    | inr ge ↦ ge
    | inl lt ↦ absurd (let s = slice_get-get_or (j.scripts p) (fired_by j w p) 0 lt in cc)
  ])

  pub left_none : (w : List ℕ) (p : ℕ) → projection j.loc p w ≡ j.scripts p → next j w p ≡ None
  left_none w p e = slice_get_past (j.scripts p) (fired_by j w p) (let l = ap length e in omega arith)

  -- what a complete letter says of its processes
  pub complete-here : (c : State) (a p : ℕ) → is_complete j c a ≡ true → has (j.loc a) p ≡ true → is_in c.arrived p ≡ true
  complete-here c a p h t = (and_parts (is_in c.arrived p) (comes_next (j.scripts p) (fired_by j c.journal p) a)
      (all-at (λ q. is_in c.arrived q && comes_next (j.scripts q) (fired_by j c.journal q) a) (j.loc a) p h t)).0

  pub complete-enabled : (c : State) (a : ℕ) → is_complete j c a ≡ true → is_enabled j.loc j.scripts c.journal a ≡ true
  complete-enabled c a h = all-second (is_in c.arrived) (λ p. comes_next (j.scripts p) (fired_by j c.journal p) a) (j.loc a) h

  pub not_both : (c : State) → IsSound j c → (p : ℕ) → is_in c.arrived p ≡ true → is_in c.ended p ≡ true → ⊥
  not_both c s p here gone = let a = s.waits p here in let b = ap length (s.done p gone) in omega arith

  pub initial-sound : IsSound j (initial j)
  initial-sound = record {
    arrived_size = length-replicate j.processes false;
    ended_size = length-replicate j.processes false;
    fits = empty-fits j.loc j.letters j.scripts;
    waits = λ p e. absurd (false_true (sym (at-initial j.processes p) ∙ e));
    done = λ p e. absurd (false_true (sym (at-initial j.processes p) ∙ e));
  }

  stays : (c : State) (a p : ℕ) → is_in (without (j.loc a) 0 c.arrived) p ≡ true → (is_in c.arrived p ≡ true) × (has (j.loc a) p ≡ false)
  stays c a p e = go (is_in c.arrived p) (has (j.loc a) p) (sym (at-without (j.loc a) c.arrived p) ∙ e)
    where
      go : (x y : Bool) → (x && not y) ≡ true → (x ≡ true) × (y ≡ false)
      go true true h = absurd (false_true h)
      go true false h = (refl, refl)
      go false y h = absurd (false_true h)

  pub after-sound : (c : State) (e : Event) → IsSound j c → IsAllowed j c e → IsSound j (after_event j c e)
  after-sound c (Arrive p) s h = record {
    arrived_size = length-set c.arrived p true ∙ s.arrived_size;
    ended_size = s.ended_size;
    fits = s.fits;
    waits = λ q t. elim (cases_eq q p) [
      | inl e ↦ subst (λ i. fired_by j c.journal i < length (j.scripts i)) (sym e) h.2
      | inr n ↦ s.waits q (sym (get_or-set_other c.arrived p q true false n) ∙ t)
    ];
    done = s.done;
  }
  after-sound c (Fire a) s h = record {
    arrived_size = length-without (j.loc a) c.arrived ∙ s.arrived_size;
    ended_size = s.ended_size;
    fits = fits-more j.loc j.letters j.scripts c.journal a h.0 s.fits (complete-enabled c a h.1);
    waits = λ q t. let k = stays c a q t in let w = s.waits q k.0 in let e = ap length (fired_by-other c.journal a q k.1) in omega arith;
    done = λ q t. elim (cases_Bool (has (j.loc a) q)) [
      | inl own ↦ absurd (not_both c s q (complete-here c a q h.1 own) t)
      | inr other ↦ fired_by-other c.journal a q other ∙ s.done q t
    ];
  }
  after-sound c (End p) s h = record {
    arrived_size = s.arrived_size;
    ended_size = length-set c.ended p true ∙ s.ended_size;
    fits = s.fits;
    waits = s.waits;
    done = λ q t. elim (cases_eq q p) [
      | inl e ↦ subst (λ i. projection j.loc i c.journal ≡ j.scripts i) (sym e) h.2
      | inr n ↦ s.done q (sym (get_or-set_other c.ended p q true false n) ∙ t)
    ];
  }

  pub run-sound : (c : State) (es : List Event) → IsSound j c → AreAllowed j c es → IsSound j (run j c es)
  run-sound c [] s h = s
  run-sound c (e ∷ es) s h = run-sound (after_event j c e) es (after-sound c e s h.0) h.1

  pub reached-sound : (c : State) → IsMachineState j c → IsSound j c
  reached-sound c r = subst (IsSound j) r.there (run-sound (initial j) r.events initial-sound r.allowed)

  -- each event counts once
  one_more : (c d : State) (p : ℕ) → p < j.processes → d.journal ≡ c.journal → share j d p ≡ share j c p + 1 → ((q : ℕ) → q ≢ p → share j d q ≡ share j c q) →
      events_of j d ≡ events_of j c + 1
  one_more c d p l e own other = let s = sum-more (share j c) (share j d) j.processes p l own other in let k = ap length e in omega arith

  pub after-events : (c : State) (e : Event) → IsSound j c → IsAllowed j c e → events_of j (after_event j c e) ≡ events_of j c + 1
  after-events c (Arrive p) s h =
      let l : p < length c.arrived = let z = s.arrived_size in let y = h.0 in omega arith in
      one_more c (arrive p c) p h.0 refl
      (let a = ap (λ b. cond {A = ℕ} b 1 0) h.1 in let b = ap (λ b. cond {A = ℕ} b 1 0) (get_or-set_same c.arrived p true false l) in omega arith)
      (λ q n. let a = ap (λ b. cond {A = ℕ} b 1 0) (get_or-set_other c.arrived p q true false n) in omega arith)
  after-events c (End p) s h =
      let l : p < length c.ended = let z = s.ended_size in let y = h.0 in omega arith in
      one_more c (end_at p c) p h.0 refl
      (let a = ap (λ b. cond {A = ℕ} b 1 0) h.1 in let b = ap (λ b. cond {A = ℕ} b 1 0) (get_or-set_same c.ended p true false l) in omega arith)
      (λ q n. let a = ap (λ b. cond {A = ℕ} b 1 0) (get_or-set_other c.ended p q true false n) in omega arith)
  after-events c (Fire a) s h =
      let d = fire j.loc a c in
      let k = length-append c.journal (a ∷ []) in
      let m = sum-same (share j c) (share j d) j.processes (λ q l.
      let away = at-without (j.loc a) c.arrived q in
      elim (cases_Bool (has (j.loc a) q)) [
        | inl own ↦
            let x = fired_by-own c.journal a q own in
            let here = complete-here c a q h.1 own in
            let y = ap (λ b. cond {A = ℕ} b 1 0) here in
            let off : is_in (without (j.loc a) 0 c.arrived) q ≡ false = away ∙ ap (λ b. is_in c.arrived q && not b) own ∙ ap (λ b. b && false) here in
            let w = ap (λ b. cond {A = ℕ} b 1 0) off in omega arith
        | inr other ↦
            let x = ap length (fired_by-other c.journal a q other) in
            let on : is_in (without (j.loc a) 0 c.arrived) q ≡ is_in c.arrived q = away ∙ ap (λ b. is_in c.arrived q && not b) other
            ∙ and_true (is_in c.arrived q) in
            let w = ap (λ b. cond {A = ℕ} b 1 0) on in omega arith
      ]) in omega arith

  run-events : (c : State) (es : List Event) → IsSound j c → AreAllowed j c es → events_of j (run j c es) ≡ events_of j c + length es
  run-events c [] s h = omega arith
  run-events c (e ∷ es) s h =
      let a = run-events (after_event j c e) es (after-sound c e s h.0) h.1 in
      let b = after-events c e s h.0 in omega arith

  one_if : (b : Bool) → cond {A = ℕ} b 1 0 ≤ 1
  one_if true = omega arith
  one_if false = omega arith

  share-le : (c : State) → IsSound j c → (p : ℕ) → share j c p ≤ length (j.scripts p) + 1
  share-le c s p =
      let k = fired_by-le c.journal p s.fits in
      let z = one_if (is_in c.ended p) in
      elim (cases_Bool (is_in c.arrived p)) [
        | inl t ↦ let a = s.waits p t in let y = ap (λ b. cond {A = ℕ} b 1 0) t in omega arith
        | inr f ↦ let y = ap (λ b. cond {A = ℕ} b 1 0) f in omega arith
      ]

  pub few_events : (es : List Event) → IsMachine j → AreAllowed j (initial j) es → length es ≤ 2 * total j.scripts j.processes + j.processes
  few_events es ok h =
      let c = run j (initial j) es in
      let s = run-sound (initial j) es initial-sound h in
      let e = run-events (initial j) es initial-sound h in
      let z = sum-zero (share j (initial j)) j.processes (λ q. let a = ap (λ b. cond {A = ℕ} b 1 0) (at-initial j.processes q) in omega arith) in
      let m = sum-le (share j c) j.scripts j.processes (λ q l. share-le c s q) in
      let f = fits-length j.loc j.letters j.scripts j.processes c.journal ok.alphabet s.fits in omega arith

  -- in a state that is over no letter is enabled
  pub over-maximal : (c : State) → IsMachine j → IsSound j c → IsOver j c → FitsMaximally j.loc j.letters j.scripts c.journal
  over-maximal c ok s o = record {
    fits = s.fits;
    stuck = λ a la. elim (cases_Bool (is_enabled j.loc j.scripts c.journal a)) [
      | inr off ↦ off
      | inl on ↦ absurd (
          let w = all-fails (λ p. is_in c.arrived p && comes_next (j.scripts p) (fired_by j c.journal p) a) (j.loc a) (o.quiet a la) in
          let p = w.0 in
          let n = all-at (λ q. comes_next (j.scripts q) (fired_by j c.journal q) a) (j.loc a) p on w.1 in
          let l = ltb-true (fired_by j c.journal p) (length (j.scripts p))
          (and_parts (nat_lt (fired_by j c.journal p) (length (j.scripts p))) (slice_index (j.scripts p) (fired_by j c.journal p) == a) n).0 in
          elim (or_cases (is_in c.arrived p) (is_in c.ended p) (o.each p (ok.alphabet.below a p la w.1))) [
            | inl here ↦ let k = and_from (is_in c.arrived p) (comes_next (j.scripts p) (fired_by j c.journal p) a) here n in false_true (sym w.2 ∙ k)
            | inr gone ↦ let e = ap length (s.done p gone) in omega arith
          ])
    ];
  }

  pub over-weave : (c : State) → IsMachine j → IsSound j c → IsOver j c → AreEquivalent j.loc c.journal (weave j.loc j.letters j.processes j.scripts)
  over-weave c ok s o = maximal-one j.loc j.letters j.processes j.scripts c.journal ok.alphabet (over-maximal c ok s o)

  -- all have ended exactly if the scripts are used up
  pub ended-weaves : (c : State) → IsMachine j → IsSound j c → ((p : ℕ) → p < j.processes → is_in c.ended p ≡ true) → Weaves j.loc j.letters j.scripts c.journal
  ended-weaves c ok s h = record {
    word = s.fits.word;
    whole = λ p. elim (cases_lt p j.processes) [
      | inl l ↦ s.done p (h p l)
      | inr g ↦ used_up c.journal p s.fits (let e = ap length (ok.beyond p g) in omega arith)
    ];
  }

  pub weaves-ended : (c : State) → IsMachine j → IsSound j c → IsOver j c → Weaves j.loc j.letters j.scripts c.journal → (p : ℕ) → p < j.processes →
      is_in c.ended p ≡ true
  weaves-ended c ok s o w p l = elim (or_cases (is_in c.arrived p) (is_in c.ended p) (o.each p l)) [
    | inl here ↦ absurd (let a = s.waits p here in let e = ap length (w.whole p) in omega arith)
    | inr gone ↦ gone
  ]

  -- a state allows an event, or is over
  each_or : (c : State) (n : ℕ) → ((p : ℕ) × (p < n) × ((is_in c.arrived p || is_in c.ended p) ≡ false))
      ⊎ ((p : ℕ) → p < n → (is_in c.arrived p || is_in c.ended p) ≡ true)
  each_or c zero = inr (λ p l. absurd (omega arith))
  each_or c (suc n) = elim (each_or c n) [
    | inl f ↦ inl (f.0, (let l = f.1 in omega arith), f.2)
    | inr t ↦ elim (cases_Bool (is_in c.arrived n || is_in c.ended n)) [
      | inr off ↦ inl (n, omega arith, off)
      | inl on ↦ inr (λ p l. elim (cases_eq p n) [
        | inl e ↦ subst (λ i. (is_in c.arrived i || is_in c.ended i) ≡ true) (sym e) on
        | inr ne ↦ t p (omega arith)
      ])
    ]
  ]

  or_none : (x y : Bool) → (x || y) ≡ false → (x ≡ false) × (y ≡ false)
  or_none true y h = absurd (false_true (sym h))
  or_none false y h = (refl, h)

  pub goes_on : (c : State) → IsSound j c → ((e : Event) × IsAllowed j c e) ⊎ IsOver j c
  goes_on c s = elim (cases_lt (least (is_complete j c) j.letters) j.letters) [
    | inl l ↦ inl (Fire (least (is_complete j c) j.letters), (l, least-true (is_complete j c) j.letters l))
    | inr g ↦ elim (each_or c j.processes) [
      | inr t ↦ inr (record { quiet = λ a l. least-below (is_complete j c) j.letters a (omega arith); each = t })
      | inl f ↦
          let off = or_none (is_in c.arrived f.0) (is_in c.ended f.0) f.2 in
          elim (cases_lt (fired_by j c.journal f.0) (length (j.scripts f.0))) [
            | inl l ↦ inl (Arrive f.0, (f.1, off.0, l))
            | inr m ↦ inl (End f.0, (f.1, off.1, used_up c.journal f.0 s.fits m))
          ]
    ]
  ]

pub allows_more : (j : Machine) (c : State) → IsMachineState j c → (IsOver j c → ⊥) → (e : Event) × IsAllowed j c e
allows_more j c r n = elim (goes_on j c (reached-sound j c r)) [ inl a ↦ a | inr o ↦ absurd (n o) ]

-- an over state allows none
pub over_allows_none : (j : Machine) (c : State) (e : Event) → IsMachineState j c → IsOver j c → IsAllowed j c e → ⊥
over_allows_none j c (Arrive p) r o h = elim (or_cases (is_in c.arrived p) (is_in c.ended p) (o.each p h.0)) [
  | inl here ↦ false_true (sym h.1 ∙ here)
  | inr gone ↦ let s = reached-sound j c r in let e = ap length (s.done p gone) in let l = h.2 in omega arith
]
over_allows_none j c (Fire a) r o h = false_true (sym (o.quiet a h.0) ∙ h.1)
over_allows_none j c (End p) r o h = elim (or_cases (is_in c.arrived p) (is_in c.ended p) (o.each p h.0)) [
  | inr gone ↦ false_true (sym h.1 ∙ gone)
  | inl here ↦ let s = reached-sound j c r in let l = s.waits p here in let e = ap length h.2 in omega arith
]

-- one more allowed event
run_snoc : (j : Machine) (c : State) (es : List Event) (e : Event) → AreAllowed j c es → IsAllowed j (run j c es) e → AreAllowed j c (es ++ e ∷ [])
    × (run j c (es ++ e ∷ []) ≡ after_event j (run j c es) e)
run_snoc j c [] e h k = ((k, tt), refl)
run_snoc j c (d ∷ es) e h k = let r = run_snoc j (after_event j c d) es e h.1 k in ((h.0, r.0), r.1)

pub reached_more : (j : Machine) (c : State) (e : Event) → IsMachineState j c → IsAllowed j c e → IsMachineState j (after_event j c e)
reached_more j c e r h =
    let k = run_snoc j (initial j) r.events e r.allowed (subst (λ d. IsAllowed j d e) (sym r.there) h) in
    record { events = r.events ++ e ∷ []; allowed = k.0; there = k.1 ∙ ap (λ d. after_event j d e) r.there }

pub reached_initial : (j : Machine) → IsMachineState j (initial j)
reached_initial j = record { events = []; allowed = tt; there = refl }

-- the laws, over lists of events
pub reached_fits : (j : Machine) (c : State) → IsMachineState j c → Fits j.loc j.letters j.scripts c.journal
reached_fits j c r = (reached-sound j c r).fits

pub reached_apart : (j : Machine) (c : State) (p : ℕ) → IsMachineState j c → is_in c.arrived p ≡ true → is_in c.ended p ≡ true → ⊥
reached_apart j c p r = not_both j c (reached-sound j c r) p

pub reached_maximal : (j : Machine) (c : State) → IsMachine j → IsMachineState j c → IsOver j c → FitsMaximally j.loc j.letters j.scripts c.journal
reached_maximal j c ok r o = over-maximal j c ok (reached-sound j c r) o

pub reached_weave : (j : Machine) (c : State) → IsMachine j → IsMachineState j c → IsOver j c →
    AreEquivalent j.loc c.journal (weave j.loc j.letters j.processes j.scripts)
reached_weave j c ok r o = over-weave j c ok (reached-sound j c r) o

pub reached_weaves : (j : Machine) (c : State) → IsMachine j → IsMachineState j c → IsOver j c →
    (Weaves j.loc j.letters j.scripts c.journal ↔ ((p : ℕ) → p < j.processes → is_in c.ended p ≡ true))
reached_weaves j c ok r o = (weaves-ended j c ok (reached-sound j c r) o, ended-weaves j c ok (reached-sound j c r))

pub reached_ended : (j : Machine) (c : State) (p : ℕ) → IsMachineState j c → is_in c.ended p ≡ true → projection j.loc p c.journal ≡ j.scripts p
reached_ended j c p r e = (reached-sound j c r).done p e

pub reached_left : (j : Machine) (c : State) (p : ℕ) → IsMachineState j c → ((next j c.journal p ≡ None) ↔ (projection j.loc p c.journal ≡ j.scripts p))
reached_left j c p r = (none_left j c.journal p (reached-sound j c r).fits, left_none j c.journal p)

-- a complete letter stays complete until it is fired
module _ (j : Machine) (c : State) (ok : IsMachine j) (s : IsSound j c) (a : ℕ) (la : a < j.letters) (full : is_complete j c a ≡ true) where
  test : State → ℕ → Bool
  test d p = is_in d.arrived p && comes_next (j.scripts p) (fired_by j d.journal p) a

  whose : (p : ℕ) → has (j.loc a) p ≡ true → (is_in c.arrived p ≡ true) × (comes_next (j.scripts p) (fired_by j c.journal p) a ≡ true)
  whose p m = and_parts (is_in c.arrived p) (comes_next (j.scripts p) (fired_by j c.journal p) a)
      (all-at (λ q. is_in c.arrived q && comes_next (j.scripts q) (fired_by j c.journal q) a) (j.loc a) p full m)

  next-is : (p b : ℕ) → comes_next (j.scripts p) (fired_by j c.journal p) b ≡ true → slice_index (j.scripts p) (fired_by j c.journal p) ≡ b
  next-is p b h = eqb-true (slice_index (j.scripts p) (fired_by j c.journal p)) b
      (and_parts (nat_lt (fired_by j c.journal p) (length (j.scripts p))) (slice_index (j.scripts p) (fired_by j c.journal p) == b) h).1

  pub stays-complete : (e : Event) → IsAllowed j c e → (e ≡ Fire a → ⊥) → is_complete j (after_event j c e) a ≡ true
  stays-complete (Arrive q) h n = all-from (λ p. is_in (slice_set c.arrived q true) p && comes_next (j.scripts p) (fired_by j c.journal p) a) (j.loc a) (λ p m.
      let w = whose p m in
      and_from (is_in (slice_set c.arrived q true) p) (comes_next (j.scripts p) (fired_by j c.journal p) a)
      (elim (cases_eq p q) [
        | inl e ↦ absurd (false_true (sym h.1 ∙ ap (is_in c.arrived) (sym e) ∙ w.0))
        | inr ne ↦ get_or-set_other c.arrived q p true false ne ∙ w.0
      ]) w.1)
  stays-complete (End q) h n = full
  stays-complete (Fire b) h n = all-from (λ p. is_in (without (j.loc b) 0 c.arrived) p && comes_next (j.scripts p) (fired_by j (c.journal ++ b ∷ []) p) a)
      (j.loc a) (λ p m.
      let w = whose p m in
      elim (cases_Bool (has (j.loc b) p)) [
        | inl both ↦ absurd (
            let k = and_parts (is_in c.arrived p) (comes_next (j.scripts p) (fired_by j c.journal p) b)
            (all-at (λ q. is_in c.arrived q && comes_next (j.scripts q) (fired_by j c.journal q) b) (j.loc b) p h.1 both) in
            n (ap Fire (sym (next-is p b k.1) ∙ next-is p a w.1)))
        | inr off ↦
            let away : is_in (without (j.loc b) 0 c.arrived) p ≡ true = at-without (j.loc b) c.arrived p ∙ ap (λ x. is_in c.arrived p && not x) off
            ∙ and_true (is_in c.arrived p) ∙ w.0 in
            let same = ap length (fired_by-other j c.journal b p off) in
            and_from (is_in (without (j.loc b) 0 c.arrived) p) (comes_next (j.scripts p) (fired_by j (c.journal ++ b ∷ []) p) a) away
            (ap (λ (i : ℕ). comes_next (j.scripts p) i a) same ∙ w.1)
      ])

-- then no state with a complete letter is over
pub complete-not_over : (j : Machine) (c : State) (a : ℕ) → a < j.letters → is_complete j c a ≡ true → IsOver j c → ⊥
complete-not_over j c a l h o = false_true (sym (o.quiet a l) ∙ h)

pub complete_stays : (j : Machine) (c : State) (a : ℕ) (e : Event) → IsMachine j → IsMachineState j c → a < j.letters → is_complete j c a ≡ true →
    IsAllowed j c e → (e ≡ Fire a → ⊥) → is_complete j (after_event j c e) a ≡ true
complete_stays j c a e ok r l full h n = stays-complete j c ok (reached-sound j c r) a l full e h n

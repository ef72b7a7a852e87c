-- Complete letters are the enabled ones where everyone has arrived who can, and firing the least is a step of the weave.
use Rattle.std.proofs.Common.{◌≡◌, ◌≢◌, ℕ, zero, suc, ◌-◌, ◌<◌, ◌≤◌, ◌&&◌, ◌||◌, ◌==◌, nat_lt, Bool, true, false, inl, inr, List, [], ◌∷◌, ◌++◌, length}
use Rattle.std.proofs.Common.{slice_index, refl, sym, ap, subst, ◌∙◌, arith, length-append, ltb-true, get_or-set_same, Option, Some, None}
use Rattle.std.specs.Option.{is_some, option_map}
use Rattle.za_alpha.specs.declared.word.Letter.{Letter}
use Rattle.std.specs.List.{list_all, slice_get}
use Rattle.std.proofs.lemmas.Option.{slice_get_past, slice_get-get_or}
use Rattle.std.proofs.lemmas.Bool.{cases_lt, cases_eq, and_parts, or_right}
use Rattle.za_alpha.specs.Words.{projection}
use Rattle.za_alpha.specs.Search.{least}
use Rattle.za_script.specs.Scripts.{comes_next, is_enabled, total, weave_from}
use Rattle.za_alpha.proofs.Least.{least-true, least-below, least-none, least-within, least-agree}
use Rattle.za_script.proofs.Lists.{all-agree}
use Rattle.za_script.proofs.Confluence.{fits-length}
use Rattle.za_script.proofs.Standing.{from-end, from-step}
use Rattle.za_machine.specs.Machine.{Machine, IsMachine, State, is_in, fired_by, next, is_complete, IsOver, Fire, arrive, fire, end_at, IsAllowed}
use Rattle.za_machine.specs.Machine.{IsMachineState}
use Rattle.za_machine.proofs.States.{reached_more, reached-sound, none_left}
use Rattle.za_alpha.specs.Alphabet.{loc_of}
use Rattle.za_script.specs.ScriptLists.{script_of}
use Rattle.za_table.specs.Tables.{Given, TableState, IsTable, machine_of}
use Rattle.za_table.proofs.Keeping.{machine}

pub total-mono : (f : ℕ → List ℕ) (i n : ℕ) → i ≤ n → total f i ≤ total f n
total-mono f i zero h = let e : i ≡ 0 = omega arith in subst (λ (k : ℕ). total f k ≤ 0) (sym e) (omega arith)
total-mono f i (suc n) h = elim (cases_eq i (suc n)) [
  | inl e ↦ subst (λ (k : ℕ). total f k ≤ total f (suc n)) (sym e) (omega arith)
  | inr ne ↦ let k = total-mono f i n (omega arith) in omega arith
]

and_self : (x y : Bool) → (y ≡ true → x ≡ true) → (x && y) ≡ y
and_self x true h = ap (λ b. b && true) (h refl)
and_self true false h = refl
and_self false false h = refl

abbrev pub AllHere : Machine → State → Type 0
AllHere j c = (p : ℕ) → p < j.processes → fired_by j c.journal p < length (j.scripts p) → is_in c.arrived p ≡ true

abbrev pub AllGone : Machine → State → Type 0
AllGone j c = (p : ℕ) → p < j.processes → length (j.scripts p) ≤ fired_by j c.journal p → is_in c.ended p ≡ true

module _ (j : Machine) (c : State) (ok : IsMachine j) (here : AllHere j c) where
  complete-is-enabled : (a : ℕ) → a < j.letters → is_complete j c a ≡ is_enabled j.loc j.scripts c.journal a
  complete-is-enabled a l = all-agree (λ p. is_in c.arrived p && comes_next (j.scripts p) (fired_by j c.journal p) a)
      (λ p. comes_next (j.scripts p) (fired_by j c.journal p) a) (j.loc a)
      (λ p m. and_self (is_in c.arrived p) (comes_next (j.scripts p) (fired_by j c.journal p) a) (λ n.
      here p (ok.alphabet.below a p l m)
      (ltb-true (fired_by j c.journal p) (length (j.scripts p)) (and_parts (nat_lt (fired_by j c.journal p) (length (j.scripts p)))
      (slice_index (j.scripts p) (fired_by j c.journal p) == a) n).0)))

  pub first-is-enabled : least (is_complete j c) j.letters ≡ least (is_enabled j.loc j.scripts c.journal) j.letters
  first-is-enabled = least-agree (is_complete j c) (is_enabled j.loc j.scripts c.journal) j.letters complete-is-enabled

abbrev pub woven : Machine → List ℕ → List ℕ
woven j w = weave_from j.loc j.letters j.scripts (total j.scripts j.processes - length w) w

module _ (j : Machine) where
  pub woven-end : (c : State) → IsMachine j → AllHere j c → j.letters ≡ least (is_complete j c) j.letters → woven j c.journal ≡ c.journal
  woven-end c ok here e = from-end j.loc j.letters j.scripts (total j.scripts j.processes - length c.journal) c.journal
      (let f = first-is-enabled j c ok here in omega arith)

  pub room-for : (c : State) (a : ℕ) → IsMachine j → IsMachineState j c → IsAllowed j c (Fire a) → length c.journal < total j.scripts j.processes
  room-for c a ok r h =
      let s = reached-sound j (fire j.loc a c) (reached_more j c (Fire a) r h) in
      let k = fits-length j.loc j.letters j.scripts j.processes (c.journal ++ a ∷ []) ok.alphabet s.fits in
      let e = length-append c.journal (a ∷ []) in omega arith

  pub first-allowed : (c : State) (a : ℕ) → a ≡ least (is_complete j c) j.letters → a < j.letters → IsAllowed j c (Fire a)
  first-allowed c a e l = (l, subst (λ x. is_complete j c x ≡ true) (sym e) (least-true (is_complete j c) j.letters (rw (← e) l)))

  pub woven-step : (c : State) (a : ℕ) → IsMachine j → IsMachineState j c → AllHere j c → a ≡ least (is_complete j c) j.letters → a < j.letters →
      woven j c.journal ≡ woven j (c.journal ++ a ∷ [])
  woven-step c a ok r here e l =
      let f = first-is-enabled j c ok here in
      let n = room-for c a ok r (first-allowed c a e l) in
      let k = length-append c.journal (a ∷ []) in
      from-step j.loc j.letters j.scripts (total j.scripts j.processes - length c.journal) (total j.scripts j.processes - length (c.journal ++ a ∷ []))
      c.journal a
      (e ∙ f) l (omega arith)

  or_here : (x y : Bool) → x ≡ true → (x || y) ≡ true
  or_here true y h = refl
  or_here false y h = absurd (let z : false ≡ true = h in cc)

  -- once nobody can arrive or end and no letter is complete
  pub over-then : (c d : State) → AllHere j c → d.journal ≡ c.journal → d.arrived ≡ c.arrived → AllGone j d → j.letters ≡ least (is_complete j c) j.letters →
      IsOver j d
  over-then c d here same still gone e = record {
    quiet = λ a l. (λ i. list_all (λ p. is_in (still i) p && comes_next (j.scripts p) (fired_by j (same i) p) a) (j.loc a)) ∙ least-below
        (is_complete j c) j.letters a (omega arith);
    each = λ p l. elim (cases_lt (fired_by j d.journal p) (length (j.scripts p))) [
      | inl m ↦ or_here (is_in d.arrived p) (is_in d.ended p)
          (subst (λ bs. is_in bs p ≡ true) (sym still) (here p l (subst (λ w. fired_by j w p < length (j.scripts p)) same m)))
      | inr g ↦ or_right (is_in d.arrived p) (is_in d.ended p) (gone p l g)
    ];
  }

  pub over-if : (c : State) → least (is_complete j c) j.letters ≡ j.letters → ((p : ℕ) → p < j.processes → (is_in c.arrived p || is_in c.ended p) ≡ true) →
      IsOver j c
  over-if c e each = record { quiet = λ a l. least-below (is_complete j c) j.letters a (omega arith); each = each }

  pub over-only : (c : State) → IsOver j c → least (is_complete j c) j.letters ≡ j.letters
  over-only c o = elim (cases_lt (least (is_complete j c) j.letters) j.letters) [
    | inl l ↦ absurd (let t = least-true (is_complete j c) j.letters l in let f = o.quiet (least (is_complete j c) j.letters) l in cc)
    | inr g ↦ (let k = least-none (is_complete j c) j.letters (λ a l. o.quiet a l) in sym k)
  ]

pub used-up : (h : TableState) (p : ℕ) → IsTable h → next (machine_of h.given) h.state.journal p ≡ None → projection (loc_of h.given.dfa.alphabet) p
    h.state.journal ≡ script_of h.given.scripts p
used-up h p ok e = none_left (machine_of h.given) h.state.journal p (reached-sound (machine_of h.given) h.state ok.reached).fits e

pub left-none : (xs : List ℕ) (k : ℕ) → slice_get xs k ≡ None → length xs ≤ k
left-none xs k e = elim (cases_lt k (length xs)) [
  | inl l ↦ absurd (let s = slice_get-get_or xs k 0 l in cc)
  | inr g ↦ g
]

pub left-some : (xs : List ℕ) (k : ℕ) → length xs ≤ k → slice_get xs k ≡ None
left-some xs k h = slice_get_past xs k h

-- one turn of the loop, which begins at s: everyone arrives, which gives h, and the letter a is fired, which gives f
module _ (s h f : TableState) (a : ℕ) (same : h.given ≡ s.given) (word : h.state.journal ≡ s.state.journal) (ok : IsTable h)
    (here : AllHere (machine_of h.given) h.state)
    (is : a ≡ least (is_complete (machine_of h.given) h.state) (length h.given.dfa.alphabet.letters)) (other : a ≢ length h.given.dfa.alphabet.letters) where
  pub turn-below : a < length h.given.dfa.alphabet.letters
  turn-below = let k = least-within (is_complete (machine_of h.given) h.state) (length h.given.dfa.alphabet.letters) in let n : a ≢ length
      h.given.dfa.alphabet.letters = other in omega arith

  pub turn-allowed : IsAllowed (machine_of h.given) h.state (Fire a)
  turn-allowed = first-allowed (machine_of h.given) h.state a is turn-below

  pub turn-woven : f.given ≡ h.given → f.state ≡ fire (loc_of h.given.dfa.alphabet) a h.state → woven (machine_of s.given) s.state.journal ≡ woven
      (machine_of f.given) f.state.journal
  turn-woven g m = (λ i. woven (machine_of (sym same i)) (sym word i)) ∙ woven-step (machine_of h.given) h.state a (machine h ok) ok.reached here is
      turn-below ∙ (λ i. woven (machine_of (sym g i)) (sym m i).journal)

  pub turn-less : f.given ≡ h.given → f.state ≡ fire (loc_of h.given.dfa.alphabet) a h.state →
      total (script_of f.given.scripts) (f.given.dfa.alphabet.processes) - length f.state.journal < total (script_of s.given.scripts)
      (s.given.dfa.alphabet.processes) - length s.state.journal
  turn-less g m =
      let left : Given → List ℕ → ℕ = λ x w. total (script_of x.scripts) (x.dfa.alphabet.processes) - length w in
      let e1 : left h.given h.state.journal ≡ left s.given s.state.journal = λ i. left (same i) (word i) in
      let e2 : left f.given f.state.journal ≡ left h.given (h.state.journal ++ a ∷ []) = λ i. left (g i) (m i).journal in
      let r = room-for (machine_of h.given) h.state a (machine h ok) ok.reached turn-allowed in
      let k = length-append h.state.journal (a ∷ []) in
      let z : left h.given (h.state.journal ++ a ∷ []) < left h.given h.state.journal = omega arith in
      subst (λ (x : ℕ). x < left s.given s.state.journal) (sym e2) (subst (λ (x : ℕ). left h.given (h.state.journal ++ a ∷ []) < x) e1 z)

-- the loop's end
module _ (s h f : TableState) (same : h.given ≡ s.given) (word : h.state.journal ≡ s.state.journal) (ok : IsTable h)
    (here : AllHere (machine_of h.given) h.state)
    (is : length h.given.dfa.alphabet.letters ≡ least (is_complete (machine_of h.given) h.state) (length h.given.dfa.alphabet.letters))
    (g : f.given ≡ h.given) (m : f.state.journal ≡ h.state.journal) where
  pub end-woven : woven (machine_of s.given) s.state.journal ≡ f.state.journal
  end-woven = (λ i. woven (machine_of (sym same i)) (sym word i)) ∙ woven-end (machine_of h.given) h.state (machine h ok) here is ∙ sym m

  pub end-over : f.state.arrived ≡ h.state.arrived → AllGone (machine_of f.given) f.state → IsOver (machine_of f.given) f.state
  end-over still gone = subst (λ (x : Given). IsOver (machine_of x) f.state) (sym g)
      (over-then (machine_of h.given) h.state f.state here m still (subst (λ (x : Given). AllGone (machine_of x) f.state) g gone) is)

pub is_none : (o : Option ℕ) → is_some o ≡ false → o ≡ None
is_none None h = refl
is_none (Some x) h = cc

pub here-now : (h k : TableState) (p : ℕ) → IsTable h → p < h.given.dfa.alphabet.processes → k.state ≡ arrive p h.state → is_in k.state.arrived p ≡ true
here-now h k p ok l e =
    let s = (reached-sound (machine_of h.given) h.state ok.reached).arrived_size in
    let m : p < length h.state.arrived = omega arith in
    ap (λ (c : State). is_in c.arrived p) e ∙ get_or-set_same h.state.arrived p true false m

pub gone-now : (h k : TableState) (p : ℕ) → IsTable h → p < h.given.dfa.alphabet.processes → k.state ≡ end_at p h.state → is_in k.state.ended p ≡ true
gone-now h k p ok l e =
    let s = (reached-sound (machine_of h.given) h.state ok.reached).ended_size in
    let m : p < length h.state.ended = omega arith in
    ap (λ (c : State). is_in c.ended p) e ∙ get_or-set_same h.state.ended p true false m

pub left-some-below : (xs : List ℕ) (k : ℕ) → is_some (slice_get xs k) ≡ true → k < length xs
left-some-below xs k h = elim (cases_lt k (length xs)) [
  | inl l ↦ l
  | inr g ↦ absurd (let e = ap is_some (slice_get_past xs k g) in cc)
]

pub mapped-none : (o : Option Letter) → is_some o ≡ false → option_map (λ (a : Letter). a.0) o ≡ None
mapped-none None h = refl
mapped-none (Some x) h = cc

pub mapped-some : (o : Option Letter) → is_some o ≡ true → is_some (option_map (λ (a : Letter). a.0) o) ≡ true
mapped-some None h = cc
mapped-some (Some x) h = refl

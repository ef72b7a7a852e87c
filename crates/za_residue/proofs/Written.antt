-- Functions that are written.
use Rattle.std.proofs.Common.{◌≡◌, ℕ, zero, suc, ◌+◌, ◌*◌, ◌/◌, ◌%◌, ◌^◌, ◌<◌, ◌≤◌, Bool, true, false, ◌||◌, eqb, eqb-true, eq-eqb, inl, inr, List, [], ◌∷◌}
use Rattle.std.proofs.Common.{◌++◌, length, get_or, slice_index, take, refl, sym, ap, subst, ◌∙◌, arith}
use Rattle.std.specs.List.{list_any}
use Rattle.std.proofs.Math.Path.{fun_ext}
use Rattle.std.proofs.Math.Nat.{div-add-mod, mul_comm}
use Rattle.std.proofs.lemmas.Bool.{cases_Bool, or_left, or_right, or_cases}
use Rattle.std.proofs.lemmas.List.{get_or_default}
use Rattle.std.proofs.lemmas.List.FromFn.{fill_by_all}
use Rattle.za_alpha.specs.declared.procs.Procs.{Procs}
use Rattle.za_alpha.specs.Words.{has, meets}
use Rattle.za_alpha.specs.Procs.{members, no_process}
use Rattle.za_alpha.specs.Alphabet.{loc_of, procs_at}
use Rattle.za_alpha.proofs.Members.{members-zero}
use Rattle.za_alpha.proofs.Swaps.{meets-elim, meets-intro}
use Rattle.za_order.specs.Locals.{residue_word}
use Rattle.za_order.specs.Views.{participants}
use Rattle.za_order.proofs.Sets.{any-here, any-where}
use Rattle.za_order.proofs.Ranges.{or-false}
use Rattle.za_order.proofs.Rising.{length-members-le}
use Rattle.za_order.proofs.NextLetter.{length-next}
use Rattle.za_dfa.specs.Automata.{HasDiamonds, walk}
use Rattle.za_dfa.specs.Tables.{CompleteDfa, IsComplete, automaton_of, step_of}
use Rattle.za_dfa.proofs.GridLemmas.{row_of_cell}
use Rattle.za_dfa.proofs.TableLemmas.{total_of_complete}
use Rattle.za_residue.specs.declared.masks.Masks.{Masks}
use Rattle.za_residue.specs.Functions.{Functions, in_set}
use Rattle.za_residue.specs.Residues.{table_residues}
use Rattle.za_residue.specs.Masks.{is_under}
use Rattle.za_residue.specs.Laws.{in_turn, omitted, composed}
use Rattle.za_residue.specs.Private.Turns.{turn_of, is_omitted, AreOmitted, CanBeTaken}
use Rattle.za_residue.specs.Private.Written.{AreGiven, AreWritten, residue_next}
use Rattle.za_residue.proofs.Inputs.{inputs-length, omitted-at, taken, composed-inputs, residue-of-set}
use Rattle.za_residue.proofs.SetNumbers.{in-none, in-top}
use Rattle.za_residue.proofs.Halves.{halves}
use Rattle.za_residue.proofs.LeftOut.{omitted-same}
use Rattle.za_residue.proofs.NextResidues.{reset-next, participants_compose}

-- functions are the same by their parts
pub same-functions : (f g : Functions) → f.processes ≡ g.processes → f.states ≡ g.states → f.values ≡ g.values → f ≡ g
same-functions f g p s v =
    let made : ℕ → ℕ → List ℕ → Functions = λ processes states values. record { processes = processes; states = states; values = values } in
    ap (λ n. made n f.states f.values) p ∙ ap (λ k. made g.processes k f.values) s ∙ ap (made g.processes g.states) v

-- functions that agree lead to the same in turn
in_turn-same : (f g : ℕ → ℕ → ℕ) (k q : ℕ) → ((i q : ℕ) → i < k → f i q ≡ g i q) → in_turn f k q ≡ in_turn g k q
in_turn-same f g zero q h = refl
in_turn-same f g (suc k) q h = ap (f k) (in_turn-same f g k q (λ i q l. h i q (omega arith))) ∙ h k (in_turn g k q) (omega arith)

-- the set may be named by another test
pub written-named : (d : CompleteDfa) (a : ℕ) (inputs : List Functions) (masks : Masks) (s t : ℕ → Bool) (count : ℕ) (block : List ℕ) → ((y : ℕ) → s y ≡ t y) →
    AreWritten d a inputs masks s count block → AreWritten d a inputs masks t count block
written-named d a inputs masks s t count block e k = subst (λ set. AreWritten d a inputs masks set count block) (fun_ext e) k

module _ (d : CompleteDfa) (whole : IsComplete d) (diamonds : HasDiamonds (loc_of d.alphabet) (automaton_of d)) (a : ℕ) (small : a < length d.alphabet.letters)
    (inputs : List Functions) (masks : Masks) where
  abbrev loc : ℕ → List ℕ
  loc = loc_of d.alphabet

  abbrev n : ℕ
  n = d.alphabet.processes

  -- a set that meets no participant has none
  pub apart-of : (s : Procs) → meets (members s) (loc a) ≡ false → list_any (has (members s)) (loc a) ≡ false
  apart-of s h = elim (cases_Bool (list_any (has (members s)) (loc a))) [
    | inr f ↦ f
    | inl t ↦ let y = any-where (has (members s)) (loc a) t in let z = meets-intro (members s) (loc a) y.0 y.2 y.1 in let c : true ≡ false = sym z ∙ h in cc
  ]

  -- and none with one process more that is no participant
  pub apart-more : (s more : Procs) (r : ℕ) → meets (members s) (loc a) ≡ false → has (loc a) r ≡ false →
      ((y : ℕ) → has (members more) y ≡ (eqb y r || has (members s) y)) → meets (members more) (loc a) ≡ false
  apart-more s more r h out e = elim (cases_Bool (meets (members more) (loc a))) [
    | inr f ↦ f
    | inl t ↦
        let y = meets-elim (members more) (loc a) t in
        elim (or_cases (eqb y.0 r) (has (members s) y.0) (sym (e y.0) ∙ y.1)) [
          | inl k ↦ let z : true ≡ false = sym y.2 ∙ ap (has (loc a)) (eqb-true y.0 r k) ∙ out in cc
          | inr k ↦ let z : true ≡ false = sym (meets-intro (members s) (loc a) y.0 k y.2) ∙ h in cc
        ]
  ]

  -- they are few, and there is one
  pub few-inputs : (w : List ℕ) → AreGiven d a inputs masks w → length inputs ≤ n
  few-inputs w given =
      let few = whole.distributed.few_processes in
      let e = inputs-length d whole w (loc a) inputs masks given.residues given.shared in
      let l = length-members-le (procs_at d.alphabet.letters a) n (omega arith) (λ p h. whole.distributed.located.below a p small h) in
      omega arith

  pub some-inputs : (w : List ℕ) → AreGiven d a inputs masks w → 0 < length inputs
  some-inputs w given =
      let p = whole.distributed.located.some a small in
      let l = has-length (loc a) p.0 p.1 in
      let e = inputs-length d whole w (loc a) inputs masks given.residues given.shared in omega arith
    where
      has-length : (ps : List ℕ) (p : ℕ) → has ps p ≡ true → 0 < length ps
      has-length [] p h = cc
      has-length (q ∷ ps) p h = omega arith

  module _ (w : List ℕ) (given : AreGiven d a inputs masks w) (x : ℕ) (part : has (loc a) x ≡ true) where
    wa : List ℕ
    wa = w ++ a ∷ []

    -- a set with a participant leaves nothing
    reset : (set : ℕ → Bool) (q : ℕ) → list_any set (loc a) ≡ true → residue_next d a w x set q ≡ q
    reset set q t =
        ap (walk (step_of d) q)
        (ap (λ m. residue_word loc n (w ++ a ∷ []) m x set) (length-next w a)
        ∙ reset-next loc (length d.alphabet.letters) n w a whole.distributed.located given.residues.word small x set part t)

    -- any other leads through the inputs and the letter
    through : (set : ℕ → Bool) (q : ℕ) → q < d.states → list_any set (loc a) ≡ false → residue_next d a w x set q
        ≡ step_of d (composed loc (automaton_of d) n w (loc a) set q) a
    through set q l f =
        ap (walk (step_of d) q) (ap (λ m. residue_word loc n (w ++ a ∷ []) m x set) (length-next w a))
        ∙ participants_compose loc n (automaton_of d) w a x set q whole.distributed.located (total_of_complete d whole) diamonds given.residues.word small l
        part f

    -- sets for which the same is left out lead to the same
    pub same-left : (s t : ℕ → Bool) (q : ℕ) → q < d.states → list_any s (loc a) ≡ false → list_any t (loc a) ≡ false →
        ((i y : ℕ) → i < length inputs → is_omitted masks n s i y ≡ is_omitted masks n t i y) → residue_next d a w x s q ≡ residue_next d a w x t q
    same-left s t q l fs ft h =
        let xs : List ℕ = loc a in
        let who = participants loc w in
        let long = inputs-length d whole w xs inputs masks given.residues given.shared in
        let left = λ (set : ℕ → Bool) (i : ℕ). omitted who n (length w) xs set (take i xs) (slice_index xs i) in
        let at = omitted-at d whole w xs inputs masks given.residues given.shared in
        through s q l fs
        ∙ ap (λ q. step_of d q a)
        (in_turn-same
        (λ i q. walk (step_of d) q (residue_word loc n w (length w) (slice_index xs i) (left s i)))
        (λ i q. walk (step_of d) q (residue_word loc n w (length w) (slice_index xs i) (left t i)))
        (length xs) q
        (λ i q k. ap (walk (step_of d) q) (residue-of-set loc n w (length w) (slice_index xs i) (left s i) (left t i)
        (λ y m. let li : i < length inputs = omega arith in sym (at s i y li) ∙ h i y li ∙ at t i y li))))
        ∙ sym (through t q l ft)

    -- what the inputs do in turn for what is left out of them, and the letter
    pub value-next : (set : ℕ → Bool) (sets : List Procs) (q : ℕ) → q < d.states → list_any set (loc a) ≡ false → AreOmitted masks n set (length inputs) sets →
        step_of d (in_turn (turn_of inputs sets) (length inputs) q) a ≡ residue_next d a w x set q
    value-next set sets q l f left =
        ap (λ r. step_of d r a) (composed-inputs d whole w (loc a) inputs masks given.residues given.shared set sets left q l) ∙ sym (through set q l f)

  -- the inputs can be taken in turn
  pub taken-after : (w : List ℕ) → AreGiven d a inputs masks w → (set : ℕ → Bool) (sets : List Procs) → AreOmitted masks n set (length inputs) sets → (q : ℕ) →
      q < d.states →
      (taken : CanBeTaken inputs sets q) × (taken.states ≡ d.states)
  taken-after w given set sets left q l = taken d whole w (loc a) inputs masks given.residues given.shared set sets left q l

  -- one set alone
  pub written-one : (set : ℕ → Bool) (sets : List Procs) (block : List ℕ) → list_any set (loc a) ≡ false → AreOmitted masks n set (length inputs) sets →
      ((q : ℕ) → q < d.states → slice_index block q ≡ step_of d (in_turn (turn_of inputs sets) (length inputs) q) a) →
      ((q : ℕ) → q < d.states → slice_index block q < d.states) →
      AreWritten d a inputs masks set 1 block
  written-one set sets block f left values below = record {
    below = λ m q lm lq.
        let e : q ≡ m * d.states + q = at m q lm in
        let P : ℕ → Type 0 = λ i. slice_index block i < d.states in subst P e (below q lq);
    values = λ w given x h m q lm lq.
        let e : q ≡ m * d.states + q = at m q lm in
        ap (slice_index block) (sym e) ∙ values q lq ∙ value-next w given x h set sets q lq f left
        ∙ ap (λ t. residue_next d a w x t q) (fun_ext (λ y. sym (ap (λ m. set y || in_set m y) (none m lm) ∙ ap (λ b. set y || b) (in-none y)
        ∙ or-false (set y))));
  } where
    none : (m : ℕ) → m < 1 → m ≡ 0
    none m l = omega arith

    at : (m q : ℕ) → m < 1 → q ≡ m * d.states + q
    at m q l = let e : m * d.states ≡ 0 * d.states = ap (λ m. m * d.states) (none m l) in omega arith

  module _ (set : ℕ → Bool) (r : ℕ) where
    -- the set and r
    abbrev pub more : ℕ → Bool
    more y = eqb y r || set y

    -- both halves
    pub written-halves : (low high : List ℕ) → length low ≡ 2 ^ r * d.states → AreWritten d a inputs masks set (2 ^ r) low →
        AreWritten d a inputs masks more (2 ^ r) high →
        AreWritten d a inputs masks set (2 ^ (r + 1)) (low ++ high)
    written-halves low high long l h = record {
      below = halves d.states r low high long (λ m q v. v < d.states) l.below h.below;
      values = λ w given x part. halves d.states r low high long (λ m q v. v ≡ residue_next d a w x (λ y. set y || in_set m y) q)
          (l.values w given x part)
          (λ m q lm lq. h.values w given x part m q lm lq
          ∙ ap (λ t. residue_next d a w x t q) (fun_ext (λ y. swap (eqb y r) (set y) (in_set m y) ∙ ap (λ b. set y || b) (sym (in-top r m y lm)))));
    } where
      swap : (e s b : Bool) → ((e || s) || b) ≡ (s || (e || b))
      swap true true b = refl
      swap true false b = refl
      swap false true b = refl
      swap false false b = refl

    -- where r is a participant nothing is left for the sets with it
    pub written-reset : (block : List ℕ) → has (loc a) r ≡ true → ((m q : ℕ) → m < 2 ^ r → q < d.states → slice_index block (m * d.states + q) ≡ q) →
        AreWritten d a inputs masks more (2 ^ r) block
    written-reset block taken same = record {
      below = λ m q lm lq. let e = same m q lm lq in omega arith;
      values = λ w given x part m q lm lq.
          same m q lm lq
          ∙ sym (reset w given x part (λ y. more y || in_set m y) q
          (any-here (λ y. more y || in_set m y) (loc a) r taken (or_left (more r) (in_set m r) (or_left (eqb r r) (set r) (eq-eqb r r refl)))));
    }

    -- where r leaves out nothing more, all stays
    pub written-copied : (block : List ℕ) → r < n → has (loc a) r ≡ false → ((i y : ℕ) → i < length inputs → is_under masks i r y ≡ true →
        is_omitted masks n set i y ≡ true) →
        AreWritten d a inputs masks set (2 ^ r) block → AreWritten d a inputs masks more (2 ^ r) block
    written-copied block lr apart covered k = record {
      below = k.below;
      values = λ w given x part m q lm lq.
          let s : ℕ → Bool = λ y. set y || in_set m y in
          let t : ℕ → Bool = λ y. more y || in_set m y in
          let joined : (y : ℕ) → t y ≡ (eqb y r || s y) = λ y. assoc (eqb y r) (set y) (in_set m y) in
          let same : (i y : ℕ) → i < length inputs → is_omitted masks n t i y ≡ is_omitted masks n s i y =
          λ i y l. omitted-same masks n set s t r i y lr (λ y h. or_left (set y) (in_set m y) h) joined (covered i y l) in
          k.values w given x part m q lm lq ∙ elim (cases_Bool (list_any s (loc a))) [
            | inl met ↦
                let y = any-where s (loc a) met in
                reset w given x part s q met ∙ sym (reset w given x part t q (any-here t (loc a) y.0 y.1 (joined y.0 ∙ or_right (eqb y.0 r) (s y.0) y.2)))
            | inr free ↦
                let free-t : list_any t (loc a) ≡ false = elim (cases_Bool (list_any t (loc a))) [
                  | inr f ↦ f
                  | inl met ↦
                      let y = any-where t (loc a) met in
                      elim (or_cases (eqb y.0 r) (s y.0) (sym (joined y.0) ∙ y.2)) [
                        | inl e ↦ let z : true ≡ false = sym y.1 ∙ ap (has (loc a)) (eqb-true y.0 r e) ∙ apart in cc
                        | inr b ↦ let z : true ≡ false = sym (any-here s (loc a) y.0 y.1 b) ∙ free in cc
                      ]
                ] in
                same-left w given x part s t q lq free free-t (λ i y l. sym (same i y l))
          ];
    } where
      assoc : (e s b : Bool) → ((e || s) || b) ≡ (e || (s || b))
      assoc true s b = refl
      assoc false s b = refl

  -- all of them
  pub written-all : (values : List ℕ) → length values ≡ 2 ^ n * d.states → AreWritten d a inputs masks (has (members no_process)) (2 ^ n) values →
      (w : List ℕ) → AreGiven d a inputs masks w → (x : ℕ) → has (loc a) x ≡ true → values ≡ (table_residues d (w ++ a ∷ []) x).values
  written-all values long k w given x h =
      let rule = λ (m q : ℕ). residue_next d a w x (in_set m) q in
      fill_by_all (λ i. rule (i / d.states) (i % d.states)) values (2 ^ n * d.states) 0 long
      (λ i l.
      let cell = row_of_cell i (2 ^ n) d.states l in
      let m : ℕ = i / d.states in
      let q : ℕ = i % d.states in
      let at : m * d.states + q ≡ i = ap (λ v. v + q) (mul_comm m d.states) ∙ div-add-mod i d.states in
      ap (λ i. get_or values i 0) (sym at) ∙ k.values w given x h m q cell.0 cell.1
      ∙ ap (λ t. residue_next d a w x t q) (fun_ext (λ y. ap (λ ps. has ps y || in_set m y) members-zero)))

  -- each leads to states
  pub written-below : (values : List ℕ) → length values ≡ 2 ^ n * d.states → AreWritten d a inputs masks (has (members no_process)) (2 ^ n) values →
      (i v : ℕ) → i < length values → get_or values i v < d.states
  written-below values long k i v l =
      let cell = row_of_cell i (2 ^ n) d.states (omega arith) in
      let at : i / d.states * d.states + i % d.states ≡ i = ap (λ v. v + i % d.states) (mul_comm (i / d.states) d.states) ∙ div-add-mod i d.states in
      let P : ℕ → Type 0 = λ i. get_or values i 0 < d.states in
      let Q : ℕ → Type 0 = λ y. y < d.states in
      subst Q (sym (get_or_default values i v 0 l)) (subst P at (k.below (i / d.states) (i % d.states) cell.0 cell.1))

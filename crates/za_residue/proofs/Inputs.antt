-- What the inputs do in turn.
use Rattle.std.proofs.Common.{◌≡◌, ℕ, zero, suc, ◌+◌, ◌*◌, ◌/◌, ◌%◌, ◌^◌, ◌<◌, ◌≤◌, Bool, true, false, ◌||◌, ◌&&◌, not, inl, inr, List, [], ◌∷◌, length, get_or}
use Rattle.std.proofs.Common.{slice_index, slice_index_or, take, refl, sym, ap, subst, ◌∙◌, arith}
use Rattle.std.specs.List.{range_with_len, list_any}
use Rattle.std.specs.Option.{option_map_or}
use Rattle.std.proofs.lemmas.Bool.{or_cases, and_parts}
use Rattle.std.proofs.lemmas.Nat.{div-mul-add, mod-mul-add, mul-add-lt}
use Rattle.std.proofs.lemmas.List.{length-map, get_or-map}
use Rattle.std.proofs.lemmas.List.FromFn.{get_or-map-range_with_len}
use Rattle.za_alpha.specs.declared.procs.Procs.{Procs}
use Rattle.za_alpha.specs.Words.{has}
use Rattle.za_alpha.specs.Procs.{no_process}
use Rattle.za_alpha.specs.Alphabet.{loc_of}
use Rattle.za_order.specs.Views.{participants, in_view, in_past}
use Rattle.za_order.specs.Entries.{primary}
use Rattle.za_order.specs.Locals.{earlier, under, in_residue, residue_word}
use Rattle.za_order.proofs.Ranges.{any-same}
use Rattle.za_order.proofs.Sets.{any-where}
use Rattle.za_order.proofs.Participants.{IsOver, word-over}
use Rattle.za_order.proofs.Processes.{primary-process}
use Rattle.za_dfa.specs.Automata.{walk}
use Rattle.za_dfa.specs.Tables.{CompleteDfa, IsComplete, automaton_of, step_of}
use Rattle.za_dfa.proofs.Diamonds.{walk-below}
use Rattle.za_dfa.proofs.TableLemmas.{total_of_complete}
use Rattle.za_residue.specs.declared.masks.Masks.{Masks}
use Rattle.za_residue.specs.Functions.{Functions, functions_by, value_at, in_set}
use Rattle.za_residue.specs.Residues.{table_residues}
use Rattle.za_residue.specs.Masks.{is_under, AreResiduesAfter, AreMasksAfter}
use Rattle.za_residue.specs.Private.Turns.{no_functions, turn_of, is_omitted, AreOmitted, CanBeTaken}
use Rattle.za_residue.specs.Laws.{in_turn, omitted, composed}
use Rattle.za_residue.proofs.Covered.{passes-some}
use Rattle.za_residue.proofs.Subwords.{subword-same, subword-word}
use Rattle.za_residue.proofs.Numbers.{number-below}
use Rattle.za_residue.proofs.SetNumbers.{in-members}

-- the value of functions by a rule
pub value-by : (processes states : ℕ) (rule : ℕ → ℕ → ℕ) (number q : ℕ) → number < 2 ^ processes → q < states →
    value_at (functions_by processes states rule) number q ≡ rule number q
value-by processes states rule number q l m =
    let cell = mul-add-lt number states q (2 ^ processes) l m in
    get_or-map-range_with_len (λ i. rule (i / states) (i % states)) 0 (2 ^ processes * states) (number * states + q) (number * states + q) 0 (omega arith)
    (omega arith)
    ∙ ap (λ k. rule k ((number * states + q) % states)) (div-mul-add number states q m) ∙ ap (rule number) (mod-mul-add number states q m)

-- a residue depends on which processes are in the set
pub residue-of-set : (loc : ℕ → List ℕ) (processes : ℕ) (w : List ℕ) (n p : ℕ) (s t : ℕ → Bool) → ((y : ℕ) → y < processes → s y ≡ t y) →
    residue_word loc processes w n p s ≡ residue_word loc processes w n p t
residue-of-set loc processes w n p s t h =
    let who = participants loc w in
    let known = λ (i y : ℕ). option_map_or (λ e. in_past who e i) (primary who n p y) false in
    subword-same w w (in_residue who processes n p s) (in_residue who processes n p t) n (λ i k. refl)
    (λ i k. ap (λ b. in_view who n (p ∷ []) i && not b)
    (any-same (λ y. s y && known i y) (λ y. t y && known i y) processes (λ y l. ap (λ b. b && known i y) (h y l))))

module _ (d : CompleteDfa) (whole : IsComplete d) (w xs : List ℕ) (inputs : List Functions) (masks : Masks) (given : AreResiduesAfter d w xs inputs)
    (shared : AreMasksAfter d.alphabet w xs masks) where
  abbrev loc : ℕ → List ℕ
  loc = loc_of d.alphabet

  abbrev n : ℕ
  n = d.alphabet.processes

  abbrev who : ℕ → List ℕ
  who = participants loc w

  abbrev over : IsOver loc (length d.alphabet.letters) n w
  over = word-over loc (length d.alphabet.letters) n w whole.distributed.located given.word

  -- there are as many as processes
  pub inputs-length : length inputs ≡ length xs
  inputs-length = ap length given.residues ∙ length-map xs (table_residues d w)

  pub input-at : (i : ℕ) (f : Functions) → i < length inputs → get_or inputs i f ≡ table_residues d w (get_or xs i 0)
  input-at i f l = ap (λ fs. get_or fs i f) given.residues ∙ get_or-map (table_residues d w) xs i 0 f (let e = inputs-length in omega arith)

  -- what is left out of an input by its masks is what is to be left out
  pub omitted-at : (set : ℕ → Bool) (i s : ℕ) → i < length inputs → is_omitted masks n set i s ≡ omitted who n (length w) xs set (take i xs)
      (slice_index xs i) s
  omitted-at set i s l =
      let li : i < length xs = (let e = inputs-length in omega arith) in
      let x : ℕ = slice_index xs i in
      ap (λ b. b || list_any (λ r. set r && is_under masks i r s) (range_with_len 0 n)) (shared.earlier i s li)
      ∙ ap (λ b. earlier who n (length w) (take i xs) x s || b)
      (any-same (λ r. set r && is_under masks i r s) (λ r. set r && under who n (length w) xs x r s) n (λ r k. ap (λ b. set r && b) (shared.under i r s li k)))

  -- these are processes
  some-entry : (test : ℕ → Bool) (x s : ℕ) → option_map_or test (primary who (length w) x s) false ≡ true → s < n
  some-entry test x s h =
      let e = passes-some test (primary who (length w) x s) h in
      primary-process loc (length d.alphabet.letters) n w over (length w) (omega arith) x s e.0 e.1

  omitted-process : (set : ℕ → Bool) (ps : List ℕ) (x s : ℕ) → omitted who n (length w) xs set ps x s ≡ true → s < n
  omitted-process set ps x s h =
      elim (or_cases (earlier who n (length w) ps x s) (list_any (λ r. set r && under who n (length w) xs x r s) (range_with_len 0 n)) h) [
        | inl a ↦ some-entry _ x s a
        | inr b ↦
            let r = any-where (λ r. set r && under who n (length w) xs x r s) (range_with_len 0 n) b in
            let u = and_parts (set r.0) (under who n (length w) xs x r.0 s) r.2 in
            let v = and_parts (not (has xs r.0)) _ u.1 in
            some-entry _ x s v.1
      ]

  module _ (set : ℕ → Bool) (sets : List Procs) (left : AreOmitted masks n set (length inputs) sets) where
    -- so they have numbers of sets
    set-small : (i : ℕ) → i < length inputs → (slice_index_or sets i no_process).0 < 2 ^ n
    set-small i l =
        number-below (slice_index_or sets i no_process) n (left.small i l)
        (λ y h. omitted-process set (take i xs) (slice_index xs i) y (sym (left.members i y l ∙ omitted-at set i y l) ∙ h))

    -- the inputs can be taken in turn from each state
    pub taken : (q : ℕ) → q < d.states → (taken : CanBeTaken inputs sets q) × (taken.states ≡ d.states)
    taken q l = (
      record {
        states = d.states;
        start = l;
        same = λ i k. ap (λ (f : Functions). f.states) (input-at i no_functions k);
        sets = λ i k. let P : ℕ → Type 0 = λ m. (slice_index_or sets i no_process).0 < 2 ^ m in
            subst P (sym (ap (λ (f : Functions). f.processes) (input-at i no_functions k))) (set-small i k);
        room = left.room;
      },
      refl,
    )

    -- each does what its residue without the omitted pasts does
    turn-at : (i q : ℕ) → i < length inputs → q < d.states →
        turn_of inputs sets i q ≡ walk (step_of d) q (residue_word loc n w (length w) (slice_index xs i)
        (omitted who n (length w) xs set (take i xs) (slice_index xs i)))
    turn-at i q l m =
        let o : Procs = slice_index_or sets i no_process in
        ap (λ f. value_at f o.0 q) (input-at i no_functions l)
        ∙ value-by n d.states (λ number q. walk (step_of d) q (residue_word loc n w (length w) (get_or xs i 0) (in_set number))) o.0 q (set-small i l) m
        ∙ ap (walk (step_of d) q)
        (residue-of-set loc n w (length w) (slice_index xs i) (in_set o.0) (omitted who n (length w) xs set (take i xs) (slice_index xs i))
        (λ y k. in-members o y (let few = whole.distributed.few_processes in omega arith) ∙ left.members i y l ∙ omitted-at set i y l))

    -- in turn
    turns : (q k : ℕ) → q < d.states → k ≤ length inputs →
        (in_turn (turn_of inputs sets) k q
        ≡ in_turn (λ i. λ q. walk (step_of d) q (residue_word loc n w (length w) (slice_index xs i)
        (omitted who n (length w) xs set (take i xs) (slice_index xs i)))) k q)
        × (in_turn (turn_of inputs sets) k q < d.states)
    turns q zero l m = (refl, l)
    turns q (suc k) l m =
        let rest = turns q k l (omega arith) in
        let r : ℕ = in_turn (turn_of inputs sets) k q in
        let x : ℕ = slice_index xs k in
        let v : List ℕ = residue_word loc n w (length w) x (omitted who n (length w) xs set (take k xs) x) in
        let here = turn-at k r (omega arith) rest.1 in
        let P : ℕ → Type 0 = λ q. q < d.states in (
          here ∙ ap (λ q. walk (step_of d) q v) rest.0,
          subst P (sym here)
              (walk-below (automaton_of d) (total_of_complete d whole) r v rest.1
              (subword-word loc (length d.alphabet.letters) n w over (in_residue who n (length w) x (omitted who n (length w) xs set (take k xs) x)) (length w)
              (omega arith))),
        )

    pub composed-inputs : (q : ℕ) → q < d.states → in_turn (turn_of inputs sets) (length inputs) q ≡ composed loc (automaton_of d) n w xs set q
    composed-inputs q l =
        (turns q (length inputs) l (omega arith)).0
        ∙ ap (λ k. in_turn (λ i. λ q. walk (step_of d) q (residue_word loc n w (length w) (slice_index xs i)
        (omitted who n (length w) xs set (take i xs) (slice_index xs i)))) k q) inputs-length

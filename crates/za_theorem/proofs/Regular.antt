-- The automaton of the global states of an asynchronous automaton.
use Rattle.std.proofs.Common.{◌≡◌, ℕ, ◌<◌, inl, inr, List, [], ◌∷◌, get_or, map, if◌then◌else◌, refl, sym, ap, subst, ◌∙◌, arith}
use Rattle.std.specs.List.{range_with_len}
use Rattle.std.proofs.lemmas.Bool.{cases_Bool, cond-true, cond-false}
use Rattle.std.proofs.lemmas.List.Elements.{All-head, All-tail}
use Rattle.std.proofs.lemmas.List.FromFn.{get_or-map-range_with_len, length-map-range_with_len}
use Rattle.za_alpha.specs.Words.{has, IsWord}
use Rattle.za_order.proofs.Ranges.{range-below}
use Rattle.za_dfa.specs.Automata.{Automaton, walk, is_accepted}
use Rattle.za_theorem.specs.Codes.{AreBelow, joined}
use Rattle.za_theorem.specs.Asynchronous.{Asynchronous, IsAsynchronous, moved, global_after, accepts_word}
use Rattle.za_theorem.specs.Languages.{AreProcesses}
use Rattle.za_theorem.specs.Laws.{AsynchronousIsRegular}
use Rattle.za_theorem.proofs.Radix.{digits, product, joined-below, digits-joined, digits-below, below-at, below-map}
use Rattle.za_theorem.proofs.Moves.{map-agree, exchange}

module _ (loc : ℕ → List ℕ) (letters n : ℕ) (z : Asynchronous) where
  abbrev range : List ℕ
  range = range_with_len 0 n

  abbrev bounds : List ℕ
  bounds = map z.states range

  -- a global state as a number
  abbrev code : (ℕ → ℕ) → ℕ
  code g = joined bounds (map g range)

  -- and back
  abbrev state : ℕ → ℕ → ℕ
  state c p = get_or (digits bounds c) p 0

  abbrev automaton : Automaton
  automaton = record {
    states = product bounds;
    letters = letters;
    start = code z.start;
    step = λ c a. code (moved loc z (state c) a);
    accepts = λ c. z.accepts (digits bounds c);
  }

  -- each process is in one of its local states
  abbrev IsGlobal : (ℕ → ℕ) → Type 0
  IsGlobal g = (p : ℕ) → p < n → g p < z.states p

  below : (g : ℕ → ℕ) → IsGlobal g → AreBelow bounds (map g range)
  below g h = below-map z.states g range (λ p k. h p (range-below n p k))

  code-below : (g : ℕ → ℕ) → IsGlobal g → code g < product bounds
  code-below g h = joined-below bounds (map g range) (below g h)

  state-code : (g : ℕ → ℕ) → IsGlobal g → (p : ℕ) → p < n → state (code g) p ≡ g p
  state-code g h p l = ap (λ xs. get_or xs p 0) (digits-joined bounds (map g range) (below g h)) ∙ get_or-map-range_with_len g 0 n p p 0 l (omega arith)

  module _ (inside : AreProcesses loc letters n) (whole : IsAsynchronous loc letters n z) where
    state-global : (c : ℕ) → IsGlobal (state c)
    state-global c p l =
        let long = length-map-range_with_len z.states 0 n in
        subst (λ b. state c p < b) (get_or-map-range_with_len z.states 0 n p p 0 l (omega arith))
        (below-at bounds (digits bounds c) p (digits-below bounds (map z.start range) c (below z.start whole.starts)) (omega arith))

    moved-global : (g : ℕ → ℕ) (a : ℕ) → a < letters → IsGlobal g → IsGlobal (moved loc z g a)
    moved-global g a small h p l = elim (cases_Bool (has (loc a) p)) [
      | inl t ↦ subst (λ v. v < z.states p) (sym (cond-true (has (loc a) p) (z.next a (map g (loc a)) p) (g p) t))
          (whole.steps a p g small t (λ q k. h q (inside a q small k)))
      | inr f ↦ subst (λ v. v < z.states p) (sym (cond-false (has (loc a) p) (z.next a (map g (loc a)) p) (g p) f)) (h p l)
    ]

    -- a move looks at the processes alone
    moved-agree : (f g : ℕ → ℕ) (a p : ℕ) → a < letters → ((q : ℕ) → q < n → f q ≡ g q) → p < n → moved loc z f a p ≡ moved loc z g a p
    moved-agree f g a p small h l =
        ap (λ xs. if has (loc a) p then z.next a xs p else f p) (map-agree f g (loc a) (λ x k. h x (inside a x small k)))
        ∙ ap (λ v. if has (loc a) p then z.next a (map g (loc a)) p else v) (h p l)

    code-agree : (f g : ℕ → ℕ) → ((p : ℕ) → p < n → f p ≡ g p) → code f ≡ code g
    code-agree f g h = ap (joined bounds) (map-agree f g range (λ p k. h p (range-below n p k)))

    step-code : (g : ℕ → ℕ) (a : ℕ) → a < letters → IsGlobal g → automaton.step (code g) a ≡ code (moved loc z g a)
    step-code g a small h = code-agree (moved loc z (state (code g)) a) (moved loc z g a) (λ p l. moved-agree (state (code g)) g a p small (state-code g h) l)

    run-code : (g : ℕ → ℕ) (w : List ℕ) → IsGlobal g → IsWord letters w → walk automaton.step (code g) w ≡ code (walk (moved loc z) g w)
    run-code g [] h word = refl
    run-code g (a ∷ w) h word =
        let small = All-head (λ c. c < letters) a w word in
        ap (λ c. walk automaton.step c w) (step-code g a small h) ∙ run-code (moved loc z g a) w (moved-global g a small h)
        (All-tail (λ c. c < letters) a w word)

    run-global : (g : ℕ → ℕ) (w : List ℕ) → IsGlobal g → IsWord letters w → IsGlobal (walk (moved loc z) g w)
    run-global g [] h word = h
    run-global g (a ∷ w) h word = run-global (moved loc z g a) w (moved-global g a (All-head (λ c. c < letters) a w word) h)
        (All-tail (λ c. c < letters) a w word)

    accepted-is : (w : List ℕ) → IsWord letters w → is_accepted automaton w ≡ accepts_word loc n z w
    accepted-is w word =
        ap automaton.accepts (run-code z.start w whole.starts word)
        ∙ ap z.accepts (digits-joined bounds (map (global_after loc z w) range) (below (global_after loc z w) (run-global z.start w whole.starts word)))

    two-steps : (c a b : ℕ) → a < letters → b < letters → automaton.step (automaton.step c a) b ≡ code (moved loc z (moved loc z (state c) a) b)
    two-steps c a b la lb = step-code (moved loc z (state c) a) b lb (moved-global (state c) a la (state-global c))

pub asynchronous_is_regular : AsynchronousIsRegular
asynchronous_is_regular loc letters n z inside whole =
    let at = state loc letters n z in
    let go = moved loc z in (
      automaton loc letters n z,
      record {
        same_letters = refl;
        total = record {
          starts = code-below loc letters n z z.start whole.starts;
          steps = λ q a l small.
              code-below loc letters n z (go (at q) a) (moved-global loc letters n z inside whole (at q) a small (state-global loc letters n z inside whole q));
        };
        words = accepted-is loc letters n z inside whole;
      },
      λ q a b l la lb i.
          two-steps loc letters n z inside whole q a b la lb
          ∙ code-agree loc letters n z inside whole (go (go (at q) a) b) (go (go (at q) b) a) (λ p k. exchange loc z (at q) a b p i)
          ∙ sym (two-steps loc letters n z inside whole q b a lb la),
    )

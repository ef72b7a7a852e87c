-- The automaton of the words without a letter.
use Rattle.std.proofs.Common.{◌≡◌, ◌≢◌, ℕ, zero, suc, ◌+◌, ◌*◌, ◌/◌, ◌%◌, ◌<◌, ◌==◌, ◌&&◌, Bool, true, false, not, cond, List, [], ◌∷◌, ◌++◌, length, Option}
use Rattle.std.proofs.Common.{Some, None, Result, Ok, Err, refl, sym, ap, subst, ◌∙◌, inl, inr, arith}
use Rattle.std.specs.Prelude.{nat_lt, IfOk, MatchResult, slice_index_or, is_some, unwrap_or}
use Rattle.std.specs.Option.{option_or}
use Rattle.std.proofs.lemmas.Bool.{cases_eq}
use Rattle.std.proofs.lemmas.Bool.Decides.{nat_tests}
use Rattle.std.proofs.lemmas.List.{get_or_past}
use Rattle.std.proofs.lemmas.List.Elements.{All-head, All-tail}
use Rattle.std.proofs.lemmas.List.Folds.{list_all_at}
use Rattle.std.proofs.lemmas.List.FromFn.{length-map-range_with_len}
use Rattle.za_alpha.specs.Words.{has, IsWord}
use Rattle.za_alpha.specs.Alphabet.{DistributedAlphabet}
use Rattle.za_dfa.specs.declared.rows.Row.{Row}
use Rattle.za_dfa.specs.Automata.{walk, is_accepted}
use Rattle.za_dfa.specs.Tables.{CompleteDfa, automaton_of, step_of, accepts_at}
use Rattle.za_dfa.specs.Partials.{PartialDfa, target_of, is_whole}
use Rattle.za_dfa.specs.Rows.{is_at, target_in, cells_of, partial_of, completed}
use Rattle.za_dfa.proofs.EnteredLemmas.{target_in-more, cell_at}
use Rattle.za_dfa.proofs.Completing.{step_of_completion}

-- the target of a state and a letter below i, where the letter a has none
abbrev pub target : ℕ → ℕ → ℕ → ℕ → Option ℕ
target a i q b = cond (q == 0 && (nat_lt b i && not (b == a))) (Some 0) None

joined : (a i q b : ℕ) → i ≢ a → option_or (target a i q b) (cond (0 == q && i == b) (Some 0) None) ≡ target a (i + 1) q b
joined a i zero b other =
    elim (cases_eq i b) [
      | inl e ↦ grind (arith, nat_tests)
      | inr ne ↦ grind (arith, nat_tests)
    ]
joined a i (suc q) b other = grind (arith, nat_tests)

-- a row for one letter more
pub row-more : (rows : List Row) (row : Row) (a i : ℕ) → row.from ≡ 0 → row.letter.0 ≡ i → row.to ≡ 0 → i ≢ a →
    ((q b : ℕ) → target_in rows q b ≡ target a i q b) →
    (q b : ℕ) → target_in (rows ++ row ∷ []) q b ≡ target a (i + 1) q b
row-more rows row a i from letter to other before q b =
    target_in-more rows row q b ∙ ap (λ t. option_or t (cond (is_at q b row) (Some row.to) None)) (before q b)
    ∙ ap (λ x. option_or (target a i q b) (cond (x == q && row.letter.0 == b) (Some row.to) None)) from
    ∙ ap (λ x. option_or (target a i q b) (cond (0 == q && x == b) (Some row.to) None)) letter
    ∙ ap (λ x. option_or (target a i q b) (cond (0 == q && i == b) (Some x) None)) to ∙ joined a i q b other

-- and none for the letter a
pub row-skipped : (rows : List Row) (a i : ℕ) → i ≡ a → ((q b : ℕ) → target_in rows q b ≡ target a i q b) → (q b : ℕ) →
    target_in rows q b ≡ target a (i + 1) q b
row-skipped rows a i same before q b = before q b ∙ grind (arith, nat_tests)

module _ (alphabet : DistributedAlphabet) (rows : List Row) (a : ℕ) (letter : a < length alphabet.letters)
    (targets : (q b : ℕ) → target_in rows q b ≡ target a (length alphabet.letters) q b) where
  abbrev pub m : ℕ
  m = length alphabet.letters

  abbrev pub d : CompleteDfa
  d = completed alphabet 1 0 (true ∷ []) rows

  abbrev pub t : PartialDfa
  t = partial_of alphabet 1 0 (true ∷ []) rows

  size : length (cells_of 1 m rows) ≡ 1 * m
  size = length-map-range_with_len (λ i. target_in rows (i / m) (i % m)) 0 (1 * m)

  -- the letter a has no row
  partial : is_whole t ≡ false
  partial =
      let none : target_in rows 0 a ≡ None = targets 0 a ∙ grind (arith, nat_tests) in
      let inside : 0 * m + a < length (cells_of 1 m rows) = let long = size in omega arith in
      list_all_at is_some (cells_of 1 m rows) (0 * m + a) None inside (ap is_some (cell_at 1 m rows 0 a (omega arith) letter ∙ none))

  states : d.states ≡ 2
  states = ap (λ whole. cond whole 1 2) partial

  -- where a letter leads, from the state and from the added one
  cell : (q b : ℕ) → q < 2 → b < m → target_of t q b ≡ target a m q b
  cell zero b hq hb = cell_at 1 m rows 0 b (omega arith) hb ∙ targets 0 b
  cell (suc zero) b hq hb = (let long = size in get_or_past (cells_of 1 m rows) (1 * m + b) None (omega arith)) ∙ grind (arith, nat_tests)
  cell (suc (suc q)) b hq hb = absurd (omega arith)

  step : (q b : ℕ) → q < 2 → b < m → step_of d q b ≡ unwrap_or (target a m q b) 1
  step q b hq hb = step_of_completion t q b size (subst (λ n. q < n) (sym states) hq) hb ∙ ap (λ o. unwrap_or o 1) (cell q b hq hb)

  -- the added state is never left
  walk-added : (w : List ℕ) → IsWord m w → walk (step_of d) 1 w ≡ 1
  walk-added [] h = refl
  walk-added (b ∷ w) h =
      let one : step_of d 1 b ≡ 1 = step 1 b (omega arith) (All-head (λ c. c < m) b w h) in
      ap (λ q. walk (step_of d) q w) one ∙ walk-added w (All-tail (λ c. c < m) b w h)

  walk-start : (w : List ℕ) → IsWord m w → walk (step_of d) 0 w ≡ cond (has w a) 1 0
  walk-start [] h = refl
  walk-start (b ∷ w) h =
      let hb = All-head (λ c. c < m) b w h in
      let hw = All-tail (λ c. c < m) b w h in
      elim (cases_eq b a) [
        | inl e ↦
            let one : step_of d 0 b ≡ 1 = step 0 b (omega arith) hb ∙ grind (arith, nat_tests) in
            ap (λ q. walk (step_of d) q w) one ∙ walk-added w hw ∙ grind (arith, nat_tests)
        | inr ne ↦
            let zero : step_of d 0 b ≡ 0 = step 0 b (omega arith) hb ∙ grind (arith, nat_tests) in
            ap (λ q. walk (step_of d) q w) zero ∙ walk-start w hw ∙ grind (arith, nat_tests)
      ]

  -- the words without the letter are accepted, and no others
  pub accepted-without : (w : List ℕ) → IsWord m w → is_accepted (automaton_of d) w ≡ not (has w a)
  accepted-without w h =
      ap (accepts_at d) (walk-start w h) ∙ by_cases (has w a)
    where
      accepting : (q : ℕ) → accepts_at d q ≡ slice_index_or (true ∷ false ∷ []) q false
      accepting q = ap (λ whole. slice_index_or (cond whole (true ∷ []) (true ∷ false ∷ [])) q false) partial

      by_cases : (b : Bool) → accepts_at d (cond b 1 0) ≡ not b
      by_cases true = accepting 1
      by_cases false = accepting 0

-- and so are those of what `complete` answers for these rows
pub completed-without : {E : Type 0} (F : Type 0) (Q : E → Type 0) (alphabet : DistributedAlphabet) (accepting : List Bool) (rows : List Row) (a letters : ℕ)
    (r : Result CompleteDfa E) →
    a < length alphabet.letters → letters ≡ length alphabet.letters → accepting ≡ true ∷ [] → ((q b : ℕ) → target_in rows q b ≡ target a letters q b) →
    MatchResult r (λ d. F × (d ≡ completed alphabet 1 0 accepting rows)) Q →
    IfOk r (λ d. (w : List ℕ) → IsWord (length d.alphabet.letters) w → is_accepted (automaton_of d) w ≡ not (has w a))
completed-without F Q alphabet accepting rows a letters (Ok e) letter counted one targets said =
    let same : completed alphabet 1 0 (true ∷ []) rows ≡ e = sym (said.1 ∙ ap (λ xs. completed alphabet 1 0 xs rows) one) in
    subst (λ (d : CompleteDfa). (w : List ℕ) → IsWord (length d.alphabet.letters) w → is_accepted (automaton_of d) w ≡ not (has w a)) same
    (accepted-without alphabet rows a letter (λ q b. targets q b ∙ ap (λ m. target a m q b) counted))
completed-without F Q alphabet accepting rows a letters (Err e) letter counted one targets said = tt

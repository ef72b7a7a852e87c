-- The table of the values that are found is the automaton of the expression.
use Rattle.std.proofs.Common.{◌≡◌, ◌≢◌, ℕ, zero, suc, ◌+◌, ◌*◌, ◌/◌, ◌%◌, ◌^◌, ◌<◌, ◌≤◌, Bool, true, false, ◌&&◌, cond, nat_lt, inl, inr, List, [], ◌∷◌, length}
use Rattle.std.proofs.Common.{map, slice_index, get_or, refl, sym, ap, subst, ◌∙◌, arith, eqb, eqb-true}
use Rattle.std.specs.Prelude.{All, slice_index_or}
use Rattle.std.specs.List.{list_any, range_with_len, IsDistinct}
use Rattle.std.proofs.lemmas.Bool.{cases_lt, or_cases, ne_eqb}
use Rattle.std.proofs.lemmas.Bool.Decides.{nat_tests}
use Rattle.std.proofs.lemmas.List.{get_or-map, length-map, get_or_default}
use Rattle.std.proofs.lemmas.List.Elements.{All-head, All-tail}
use Rattle.std.proofs.lemmas.List.FromFn.{length-map-range_with_len, get_or-map-range_with_len}
use Rattle.std.proofs.lemmas.Map.Keys.{IsDistinct-from_apart}
use Rattle.std.proofs.lemmas.Map.Steps.{length-le_from_distinct_below}
use Rattle.std.proofs.lemmas.Nat.{div_below}
use Rattle.std.proofs.Math.Nat.{mod-lt}
use Rattle.za_alpha.specs.Alphabet.{DistributedAlphabet, IsDistributed}
use Rattle.za_alpha.specs.Words.{IsWord}
use Rattle.za_dfa.specs.Limits.{most_states}
use Rattle.za_dfa.specs.Automata.{walk}
use Rattle.za_dfa.specs.Tables.{CompleteDfa, IsComplete, table_with, automaton_of, target_at}
use Rattle.za_min.specs.Minimal.{word_at}
use Rattle.za_min.specs.Private.Exploring.{state_of, IsTarget, Renumbers}
use Rattle.za_min.proofs.Found.{all-found, same-place}
use Rattle.za_min.proofs.Renumber.{renumbered-accepts, renumbered-numbered}
use Rattle.za_expression.specs.declared.sign.Sign.{Sign}
use Rattle.za_expression.specs.Grammar.{IsForm}
use Rattle.za_expression.specs.Values.{HasMoreValues}
use Rattle.za_form.specs.Automata.{IsValueDfa}
use Rattle.za_form.specs.Expressions.{letter_at}
use Rattle.za_form.specs.Private.Numbers.{form_of, positions_of}
use Rattle.za_form.specs.Private.Searching.{IsSearch}
use Rattle.za_form.proofs.Positions.{state-below, state_of_value, value_of_state, accepted}
use Rattle.za_form.proofs.Searches.{states_long, state_is}

-- numbers below n that a map keeps apart are at most n
below_all : (g : ℕ → ℕ) (a m n : ℕ) → ((k : ℕ) → a ≤ k → k < a + m → g k < n) → (q : ℕ) → list_any (eqb q) (map g (range_with_len a m)) ≡ true → q < n
below_all g a zero n h q t = cc
below_all g a (suc m) n h q t =
    elim (or_cases (eqb q (g a)) (list_any (eqb q) (map g (range_with_len (a + 1) m))) t) [
      | inl e ↦ let z = eqb-true q (g a) e in let k = h a (omega arith) (omega arith) in omega arith
      | inr r ↦ below_all g (a + 1) m n (λ k l u. h k (omega arith) (omega arith)) q r
    ]

pigeons : (g : ℕ → ℕ) (m n : ℕ) → ((k : ℕ) → k < m → g k < n) → ((j k : ℕ) → j < k → k < m → g j ≢ g k) → m ≤ n
pigeons g m n below apart =
    let len = length-map-range_with_len g 0 m in
    let at : (i d : ℕ) → i < m → get_or (map g (range_with_len 0 m)) i d ≡ g i = λ i d l. get_or-map-range_with_len g 0 m i i d l (omega arith) in
    let dist : IsDistinct eqb (map g (range_with_len 0 m)) =
    IsDistinct-from_apart eqb (map g (range_with_len 0 m)) (λ i j d ij jl.
    let jw : j < m = omega arith in
    let iw : i < m = omega arith in
    ne_eqb (get_or (map g (range_with_len 0 m)) i d) (get_or (map g (range_with_len 0 m)) j d) (λ e. apart i j ij jw (sym (at i d iw) ∙ (e ∙ at j d jw)))) in
    let k = length-le_from_distinct_below (map g (range_with_len 0 m)) n dist (below_all g 0 m n (λ i a l. below i (omega arith))) in
    omega arith

module _ (signs : List Sign) (letters : ℕ) (h : IsForm 1 signs (form_of signs)) (words : List (List ℕ)) (states targets : List ℕ)
    (s : IsSearch (positions_of signs letters) (length states) 0 words states targets) where
  long : length states ≡ length words
  long = states_long (positions_of signs letters) (length states) 0 words states s.found

  done : length words ≤ length states
  done = let l = long in omega arith

  -- the states that are found are sets of places
  pub states_below : All (λ m. m < 2 ^ suc (length signs)) states
  states_below k d l =
      let e = long in
      let kw : k < length words = omega arith in
      let is : slice_index states k ≡ state_of (positions_of signs letters) (word_at words k) =
      state_is (positions_of signs letters) (length states) 0 words states s.found k kw in
      let b = state-below signs letters h (word_at words k) (s.found.found.word k kw) in
      subst (λ q. q < 2 ^ suc (length signs)) (sym is ∙ get_or_default states k 0 d l) b

  -- there are no more values than words
  pub no_more : ¬ HasMoreValues (letter_at signs) (form_of signs) letters most_states
  no_more m =
      let few = s.few in
      let e = long in
      let over = m.2 in
      let most = pigeons place (length m.0) (length words) below apart in omega arith
    where
      find : (k : ℕ) → k < length m.0 →
          (j : ℕ) × (j < length words) × (state_of (positions_of signs letters) (word_at words j) ≡ state_of (positions_of signs letters) (word_at m.0 k))
      find k l = all-found (positions_of signs letters) words (length states) s.found.found done (word_at m.0 k) (m.1.each k l)

      place : ℕ → ℕ
      place k = elim (cases_lt k (length m.0)) [ inl l ↦ (find k l).0 | inr r ↦ 0 ]

      below : (k : ℕ) → k < length m.0 → place k < length words
      below k l = elim (cases_lt k (length m.0)) as (λ c. elim c [ inl l ↦ (find k l).0 | inr r ↦ 0 ] < length words) [
        | inl x ↦ (find k x).1
        | inr x ↦ absurd (omega arith)
      ]

      same : (k : ℕ) → k < length m.0 → state_of (positions_of signs letters) (word_at words (place k)) ≡ state_of (positions_of signs letters) (word_at m.0 k)
      same k l = elim (cases_lt k (length m.0)) as
          (λ c. state_of (positions_of signs letters) (word_at words (elim c [ inl l ↦ (find k l).0 | inr r ↦ 0 ])) ≡ state_of (positions_of signs letters)
          (word_at m.0 k)) [
            | inl x ↦ (find k x).2
            | inr x ↦ absurd (omega arith)
          ]

      apart : (j k : ℕ) → j < k → k < length m.0 → place j ≢ place k
      apart j k jk l e =
          let jl : j < length m.0 = omega arith in
          m.1.apart j k jk l (value_of_state signs letters h (word_at m.0 j) (word_at m.0 k) (sym (same j jl) ∙
          ap (λ x. state_of (positions_of signs letters) (word_at words x)) e ∙ same k l))

  module _ (alphabet : DistributedAlphabet) (whole : IsDistributed alphabet) (many : length alphabet.letters ≡ letters) (accepting : List Bool)
      (answers : accepting ≡ map (λ m. (positions_of signs letters).accepts m) states) where
    abbrev table : CompleteDfa
    table = table_with alphabet 0 accepting targets

    accepting_long : length accepting ≡ length states
    accepting_long = ap length answers ∙ length-map states (λ m. (positions_of signs letters).accepts m)

    target_below : (i d : ℕ) → i < length targets → get_or targets i d < length accepting
    target_below i d l =
        let size = s.cells.many in
        let la = accepting_long in
        let some = whole.some_letter in
        let pos : 0 < letters = omega arith in
        let k = i / letters in
        let b = i % letters in
        let in_range : i < length states * letters = omega arith in
        let kl : k < length states = div_below i letters (length states) pos in_range in
        let bl : b < letters = mod-lt i pos in
        let cell = (s.cells.each k b (inl kl) bl).within in
        let z : k * letters + b ≡ i = omega arith in
        let w : slice_index targets i < length states = subst (λ x. slice_index targets x < length states) z cell in
        subst (λ t. t < length accepting) (get_or_default targets i 0 d l) (omega arith)

    pub table_complete : IsComplete (table_with alphabet 0 accepting targets)
    table_complete =
        let some = s.found.found.some in
        let few = s.few in
        let e = long in
        let la = accepting_long in
        let size = s.cells.many in
        record {
          distributed = whole;
          some_state = omega arith;
          few_states = omega arith;
          starts = omega arith;
          accepting_length = refl;
          targets_length =
              let z : length states * letters + 0 ≡ length states * letters = omega arith in
              size ∙ z ∙ ap (λ n. n * letters) (sym la) ∙ ap (λ m. length accepting * m) (sym many);
          targets_below = target_below;
        }

    step_cell : (k a : ℕ) → k < length words → a < letters →
        (automaton_of (table_with alphabet 0 accepting targets)).step k a ≡ slice_index targets (k * letters + a)
    step_cell k a kl al =
        let e = long in
        let la = accepting_long in
        let kt : k < length accepting = omega arith in
        let at : a < length alphabet.letters = omega arith in
        let here : (nat_lt k (length accepting) && nat_lt a (length alphabet.letters)) ≡ true = grind (arith, nat_tests) in
        ap (λ known. cond known (target_at (table_with alphabet 0 accepting targets) k a) k) here ∙ ap (λ n. slice_index targets (k * n + a)) many

    renumbers : Renumbers (positions_of signs letters) words (automaton_of (table_with alphabet 0 accepting targets))
    renumbers =
        let e = long in
        let la = accepting_long in
        record {
          states = la ∙ e;
          letters = many;
          start = refl;
          steps = λ k a kl al.
              let ks : k < length states = omega arith in
              let c = s.cells.each k a (inl ks) al in
              let t = slice_index targets (k * letters + a) in
              let w = c.within in
              let tw : t < length words = omega arith in
              let there : state_of (positions_of signs letters) (word_at words t) ≡ (positions_of signs letters).step
              (state_of (positions_of signs letters) (word_at words k)) a =
              sym (state_is (positions_of signs letters) (length states) 0 words states s.found t tw) ∙ c.there ∙
              ap (λ q. (positions_of signs letters).step q a) (state_is (positions_of signs letters) (length states) 0 words states s.found k kl) in
              subst (λ x. IsTarget (positions_of signs letters) words k a x) (sym (step_cell k a kl al)) (record { within = tw; there = there });
          accepts = λ k kl.
              let ks : k < length states = omega arith in
              ap (λ xs. slice_index_or xs k false) answers ∙ get_or-map (λ m. (positions_of signs letters).accepts m) states k 0 false ks ∙
              ap (λ m. (positions_of signs letters).accepts m) (state_is (positions_of signs letters) (length states) 0 words states s.found k kl);
        }

    -- where a word leads in the table
    walk_there : (w : List ℕ) (k : ℕ) → k < length words → IsWord letters w →
        (walk (automaton_of (table_with alphabet 0 accepting targets)).step k w < length words) ×
        (state_of (positions_of signs letters) (word_at words (walk (automaton_of (table_with alphabet 0 accepting targets)).step k w)) ≡ walk
        (positions_of signs letters).step (state_of (positions_of signs letters) (word_at words k)) w)
    walk_there [] k l hw = (l, refl)
    walk_there (a ∷ w) k l hw =
        let t = renumbers.steps k a l (All-head (λ b. b < letters) a w hw) in
        let r = walk_there w ((automaton_of (table_with alphabet 0 accepting targets)).step k a) t.within (All-tail (λ b. b < letters) a w hw) in
        (r.0, r.1 ∙ ap (λ x. walk (positions_of signs letters).step x w) t.there)

    walk_start : (w : List ℕ) → IsWord letters w →
        (walk (automaton_of (table_with alphabet 0 accepting targets)).step 0 w < length words) ×
        (state_of (positions_of signs letters) (word_at words (walk (automaton_of (table_with alphabet 0 accepting targets)).step 0 w)) ≡ state_of
        (positions_of signs letters) w)
    walk_start w hw =
        let r = walk_there w 0 s.found.found.some hw in
        (r.0, r.1 ∙ ap (λ u. walk (positions_of signs letters).step (state_of (positions_of signs letters) u) w) s.found.found.first)

    pub value_dfa : IsValueDfa alphabet signs (table_with alphabet 0 accepting targets)
    value_dfa =
        let few = s.few in
        let la = accepting_long in
        let word : (u : List ℕ) → IsWord (length alphabet.letters) u → IsWord letters u = λ u hu. subst (λ n. IsWord n u) many hu in
        record {
          form = form_of signs;
          is = h;
          complete = table_complete;
          same = refl;
          values = λ u v hu hv.
              let wu = walk_start u (word u hu) in
              let wv = walk_start v (word v hv) in (
                λ e. value_of_state signs letters h u v (sym wu.1 ∙ ap (λ k. state_of (positions_of signs letters) (word_at words k)) e ∙ wv.1),
                λ e. same-place (positions_of signs letters) words (length states) s.found.found done
                    (walk (automaton_of (table_with alphabet 0 accepting targets)).step 0 u)
                    (walk (automaton_of (table_with alphabet 0 accepting targets)).step 0 v) wu.0 wv.0
                    (wu.1 ∙ state_of_value signs letters h u v (word u hu) (word v hv) e ∙ sym wv.1),
              );
          access = words;
          numbered = renumbered-numbered (positions_of signs letters) words (length states) s.found.found done
              (automaton_of (table_with alphabet 0 accepting targets)) renumbers;
          language = λ w hw.
              renumbered-accepts (positions_of signs letters) words (length states) s.found.found done
              (automaton_of (table_with alphabet 0 accepting targets)) renumbers w hw ∙ accepted signs letters h w;
          few = omega arith;
          no_more = subst (λ n. ¬ HasMoreValues (letter_at signs) (form_of signs) n most_states) (sym many) no_more;
        }

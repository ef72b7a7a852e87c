-- What rows of numbers tell of shared entries.
use Rattle.std.proofs.Common.{◌≡◌, ℕ, zero, suc, ◌<◌, ◌≤◌, Bool, true, false, not, ◌&&◌, ◌||◌, ◌==◌, inl, inr, List, [], ◌∷◌, length, get_or}
use Rattle.std.proofs.Common.{slice_index, take, map, Option, None, refl, sym, ap, ◌∙◌, arith, take-suc}
use Rattle.std.proofs.Common.{add-one}
use Rattle.std.specs.Prelude.{nat_lt}
use Rattle.std.specs.List.{range_with_len, list_any}
use Rattle.std.specs.Option.{option_map_or}
use Rattle.std.proofs.lemmas.Bool.{cases_lt, and_left}
use Rattle.std.proofs.lemmas.Bool.Decides.{nat_tests}
use Rattle.std.proofs.lemmas.List.{length-map, get_or-map}
use Rattle.std.proofs.lemmas.List.Folds.{list_any-append}
use Rattle.std.proofs.lemmas.List.FromFn.{get_or-map-range_with_len, length-map-range_with_len}
use Rattle.za_alpha.specs.Words.{has, IsWord}
use Rattle.za_alpha.specs.Alphabet.{DistributedAlphabet, IsDistributed, loc_of}
use Rattle.za_order.specs.Views.{participants}
use Rattle.za_order.specs.Entries.{primary, secondary}
use Rattle.za_order.specs.Locals.{Ids, ids, is_event, earlier, best, under}
use Rattle.za_order.proofs.Options.{option-cases}
use Rattle.za_order.proofs.Ranges.{any-same, any-more, any-none, or-false}
use Rattle.za_order.proofs.Participants.{word-over}
use Rattle.za_order.proofs.Processes.{primary-process}
use Rattle.za_gossip.specs.Rows.{Rows, rows_after, block_at}
use Rattle.za_residue.specs.Masks.{is_shared}
use Rattle.za_local.specs.Private.Shared.{primary_row, is_shared_before}
use Rattle.za_local.proofs.Blocks.{block-of-blocks}
use Rattle.za_local.proofs.SharedEntries.{found-primary, found-secondary, no-number, shared}

-- a search through the first elements of a list, by their places
any-of-first : (test : ℕ → Bool) (xs : List ℕ) (i : ℕ) → i ≤ length xs → list_any (λ j. test (get_or xs j 0)) (range_with_len 0 i) ≡ list_any test (take i xs)
any-of-first test xs zero l = refl
any-of-first test xs (suc i) l =
    let f : ℕ → Bool = λ j. test (get_or xs j 0) in
    ap (λ n. list_any f (range_with_len 0 n)) (sym (add-one i)) ∙ any-more f i ∙ ap (λ b. b || f i) (any-of-first test xs i (omega arith))
    ∙ sym (ap (list_any test) (take-suc xs i 0 (omega arith)) ∙ list_any-append test (take i xs) (get_or xs i 0 ∷ [])
    ∙ ap (λ b. list_any test (take i xs) || b) (or-false (f i)))

module _ (alphabet : DistributedAlphabet) (whole : IsDistributed alphabet) (w : List ℕ) (word : IsWord (length alphabet.letters) w) where
  abbrev loc : ℕ → List ℕ
  loc = loc_of alphabet

  abbrev n : ℕ
  n = alphabet.processes

  abbrev who : ℕ → List ℕ
  who = participants loc w

  abbrev known : ℕ → Ids
  known = ids loc n w (length w)

  abbrev range : List ℕ
  range = range_with_len 0 n

  -- nobody knows an event of a number that is no process
  none-beyond : (x s : ℕ) → n ≤ s → primary who (length w) x s ≡ None
  none-beyond x s ge = elim (option-cases (primary who (length w) x s)) [
    | inl none ↦ none
    | inr one ↦
        let lt = primary-process loc (length alphabet.letters) n w (word-over loc (length alphabet.letters) n w whole.located word) (length w)
        (omega arith) x s one.0 one.1 in
        absurd (omega arith)
  ]

  -- what a row shares with the primary row of x, by the number of its entry for s
  in-row : (x s : ℕ) (other : List ℕ) →
      is_shared (map (known x).primary range) other s ≡ (not ((known x).primary s == 0) && has other ((known x).primary s))
  in-row x s other =
      let row : List ℕ = map (known x).primary range in
      let long = length-map-range_with_len (known x).primary 0 n in
      elim (cases_lt s n) [
        | inl lt ↦
            let inside : nat_lt s (length row) ≡ true = grind (arith, nat_tests) in
            let here : slice_index row s ≡ (known x).primary s = get_or-map-range_with_len (known x).primary 0 n s s 0 lt (omega arith) in
            ap (λ b. (b && not (slice_index row s == 0)) && has other (slice_index row s)) inside ∙ ap (λ k. not (k == 0) && has other k) here
        | inr ge ↦
            let out : nat_lt s (length row) ≡ false = grind (arith, nat_tests) in
            and_left (nat_lt s (length row) && not (slice_index row s == 0)) (has other (slice_index row s))
            (and_left (nat_lt s (length row)) (not (slice_index row s == 0)) out)
            ∙ sym (no-number loc (length alphabet.letters) n w whole.located word (primary who (length w) x s) (has other ((known x).primary s))
            (none-beyond x s ge))
      ]

  -- with the primary row of y
  shared-primary : (x y s : ℕ) →
      is_shared (map (known x).primary range) (map (known y).primary range) s
      ≡ option_map_or (λ e. list_any (λ t. is_event (primary who (length w) y t) e) range) (primary who (length w) x s) false
  shared-primary x y s =
      in-row x s (map (known y).primary range)
      ∙ shared loc (length alphabet.letters) n w whole.located word (primary who (length w) x s) (has (map (known y).primary range) ((known x).primary s))
      (λ e. list_any (λ t. is_event (primary who (length w) y t) e) range)
      (λ e is. found-primary loc (length alphabet.letters) n w whole.located word x y s e is)

  -- with the secondary row of b for r
  shared-secondary : (x b r s : ℕ) →
      is_shared (map (known x).primary range) (map ((known b).secondary r) range) s
      ≡ option_map_or (λ e. list_any (λ t. is_event (secondary who (length w) b r t) e) range) (primary who (length w) x s) false
  shared-secondary x b r s =
      in-row x s (map ((known b).secondary r) range)
      ∙ shared loc (length alphabet.letters) n w whole.located word (primary who (length w) x s) (has (map ((known b).secondary r) range) ((known x).primary s))
      (λ e. list_any (λ t. is_event (secondary who (length w) b r t) e) range)
      (λ e is. found-secondary loc (length alphabet.letters) n w whole.located word x b r s e is)

  module _ (xs : List ℕ) (inputs : List Rows) (given : inputs ≡ map (rows_after loc n w) xs) where
    -- the primary row of an input
    pub row-at : (i : ℕ) (r : Rows) → i < length inputs → get_or inputs i r ≡ rows_after loc n w (get_or xs i 0)
    row-at i r l = ap (λ rs. get_or rs i r) given ∙ get_or-map (rows_after loc n w) xs i 0 r (let e = ap length given ∙ length-map xs (rows_after loc n w) in
        omega arith)

    primary-at : (i : ℕ) → i < length inputs → primary_row inputs i ≡ map (known (get_or xs i 0)).primary range
    primary-at i l = ap (λ (r : Rows). r.primary) (row-at i (record { primary = []; secondary = []; tertiary = [] }) l)

    -- what is shared with the inputs before it
    pub shared-earlier : (i s : ℕ) → i < length inputs → is_shared_before inputs i s ≡ earlier who n (length w) (take i xs) (slice_index xs i) s
    shared-earlier i s l =
        let long = ap length given ∙ length-map xs (rows_after loc n w) in
        let x : ℕ = get_or xs i 0 in
        let one = λ (y : ℕ) (e : ℕ). list_any (λ t. is_event (primary who (length w) y t) e) range in
        let found = λ (o : Option ℕ). option_map_or (λ e. list_any (λ y. one y e) (take i xs)) o false in
        any-same (λ j. is_shared (primary_row inputs i) (primary_row inputs j) s) (λ j. option_map_or (one (get_or xs j 0)) (primary who (length w) x s) false)
        i
        (λ j k.
        ap (λ r. is_shared r (primary_row inputs j) s) (primary-at i l) ∙ ap (λ r. is_shared (map (known x).primary range) r s) (primary-at j (omega arith))
        ∙ shared-primary x (get_or xs j 0) s)
        ∙ elim (option-cases (primary who (length w) x s)) [
          | inl none ↦
              any-none (λ j. option_map_or (one (get_or xs j 0)) (primary who (length w) x s) false) i
              (λ j k. ap (λ o. option_map_or (one (get_or xs j 0)) o false) none) ∙ sym (ap found none)
          | inr e ↦
              any-same (λ j. option_map_or (one (get_or xs j 0)) (primary who (length w) x s) false) (λ j. one (get_or xs j 0) e.0) i
              (λ j k. ap (λ o. option_map_or (one (get_or xs j 0)) o false) e.1)
              ∙ any-of-first (λ y. one y e.0) xs i (omega arith)
              ∙ sym (ap found e.1)
        ]

  -- what is shared with the best of xs, for who is none of them
  pub shared-under : (xs : List ℕ) (x r s : ℕ) → has xs r ≡ false → r < n →
      is_shared (rows_after loc n w x).primary (block_at n (rows_after loc n w (best who n (length w) xs r)).secondary r) s ≡ under who n (length w) xs x r s
  shared-under xs x r s out l =
      let b : ℕ = best who n (length w) xs r in
      let found : Bool = option_map_or (λ e. list_any (λ t. is_event (secondary who (length w) b r t) e) range) (primary who (length w) x s) false in
      ap (λ row. is_shared (map (known x).primary range) row s)
      (block-of-blocks (λ q. map ((known b).secondary q) range) n (λ q. length-map-range_with_len ((known b).secondary q) 0 n) n r l)
      ∙ shared-secondary x b r s
      ∙ sym (ap (λ v. not v && found) out)

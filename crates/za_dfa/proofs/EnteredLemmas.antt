-- Rows one after another, and the partial tables into which they are entered.
use Rattle.std.proofs.Common.{◌≡◌, ◌∙◌, ap, sym, refl, ℕ, zero, suc, ◌+◌, ◌*◌, ◌/◌, ◌%◌, ◌<◌, ◌≤◌, Bool, true, false, not, ◌&&◌, ◌||◌, cond, List, [], ◌∷◌}
use Rattle.std.proofs.Common.{◌++◌, length, get_or, set, map, replicate, arith, Option, Some, None, inl, inr, append_assoc, length-set, get_or-set_other}
use Rattle.std.specs.Prelude.{◌==◌, slice_index_or, unwrap_or}
use Rattle.std.specs.List.{range_with_len}
use Rattle.std.specs.Option.{option_or}
use Rattle.std.proofs.lemmas.Bool.{cases_Bool, cases_eq}
use Rattle.std.proofs.lemmas.Bool.Decides.{nat_tests}
use Rattle.std.proofs.lemmas.List.{ext_get_or, append-nil}
use Rattle.std.proofs.lemmas.List.FromFn.{get_or-map-range_with_len, length-map-range_with_len}
use Rattle.std.proofs.lemmas.Grind.{get_or-set_at}
use Rattle.std.proofs.lemmas.Nat.{div-mul-add, mod-mul-add, mul-add-lt}
use Rattle.std.proofs.Math.Nat.{mod-add-div}
use Rattle.std.proofs.Math.ListN.{get_or-eq_default}
use Rattle.za_alpha.specs.Alphabet.{DistributedAlphabet}
use Rattle.za_alpha.proofs.RowLemmas.{none_of_or}
use Rattle.za_dfa.specs.declared.rows.Row.{Row}
use Rattle.za_dfa.specs.Partials.{blank, PartialDfa, target_of, is_other, is_whole, entered}
use Rattle.za_dfa.specs.Tables.{step_of}
use Rattle.za_dfa.specs.Rows.{is_at, target_in, has_other, row_fault, rows_fault, cells_of, partial_of, completed}
use Rattle.za_dfa.specs.Entered.{AreEntered}
use Rattle.za_dfa.specs.Private.Views.{without_targets}
use Rattle.za_dfa.proofs.RowLemmas.{right_row, fault_by_other}
use Rattle.za_dfa.proofs.Completing.{step_of_completion}

first_target : (t u : Bool) (r : ℕ) (o : Option ℕ) (target : ℕ) →
    option_or (cond t (Some target) o) (cond u (Some r) None) ≡ cond t (Some target) (option_or o (cond u (Some r) None))
first_target true u r o target = refl
first_target false u r o target = refl

-- the target of rows and one row more: that of the rows, or else that of the row
pub target_in-more : (rows : List Row) (row : Row) (q a : ℕ) →
    target_in (rows ++ row ∷ []) q a ≡ option_or (target_in rows q a) (cond (is_at q a row) (Some row.to) None)
target_in-more [] row q a = refl
target_in-more (r ∷ rows) row q a =
    ap (λ o. cond (is_at q a r) (Some r.to) o) (target_in-more rows row q a) ∙ sym (first_target (is_at q a r) (is_at q a row) row.to (target_in rows q a) r.to)

or_none : {X : Type 0} (o : Option X) → option_or o None ≡ o
or_none None = refl
or_none (Some t) = refl

or_assoc : {X : Type 0} (a b c : Option X) → option_or a (option_or b c) ≡ option_or (option_or a b) c
or_assoc None b c = refl
or_assoc (Some x) b c = refl

-- the first fault of rows and one row more
rows_fault-more : (states : ℕ) (before rows : List Row) (row : Row) →
    rows_fault states before (rows ++ row ∷ []) ≡ option_or (rows_fault states before rows) (row_fault states (before ++ rows) row)
rows_fault-more states before [] row = or_none (row_fault states before row) ∙ ap (λ rows. row_fault states rows row) (sym (append-nil before))
rows_fault-more states before (r ∷ rows) row =
    ap (option_or (row_fault states before r))
    (rows_fault-more states (before ++ r ∷ []) rows row
    ∙ ap (λ rs. option_or (rows_fault states (before ++ r ∷ []) rows) (row_fault states rs row)) (append_assoc before (r ∷ []) rows))
    ∙ or_assoc (row_fault states before r) (rows_fault states (before ++ r ∷ []) rows) (row_fault states (before ++ r ∷ rows) row)

has_other-more : (rows : List Row) (row : Row) (q a r : ℕ) → has_other (rows ++ row ∷ []) q a r ≡ (has_other rows q a r || (is_at q a row && not (row.to == r)))
has_other-more [] row q a r = grind (arith)
has_other-more (x ∷ rows) row q a r = ap (λ b. (is_at q a x && not (x.to == r)) || b) (has_other-more rows row q a r) ∙ grind (arith)

other_of_more : (u : Bool) (o : Option ℕ) (b : Bool) (t r : ℕ) → b ≡ is_other o r → (u ≡ true → is_other o t ≡ false) →
    (b || (u && not (t == r))) ≡ is_other (option_or o (cond u (Some t) None)) r
other_of_more true None b t r e h = rw e
other_of_more true (Some s) b t r e h = let f = h refl in grind (arith, nat_tests)
other_of_more false None b t r e h = rw e
other_of_more false (Some s) b t r e h = rw e (grind (arith))

is_at_means : (q a : ℕ) (row : Row) → is_at q a row ≡ true → (row.from ≡ q) × (row.letter.0 ≡ a)
is_at_means q a row h = grind (arith, nat_tests)

-- right rows agree: one has another target exactly if the first has
agree_from : (states : ℕ) (before rows : List Row) → ((q a r : ℕ) → has_other before q a r ≡ is_other (target_in before q a) r) →
    rows_fault states before rows ≡ None →
    (q a r : ℕ) → has_other (before ++ rows) q a r ≡ is_other (target_in (before ++ rows) q a) r
agree_from states before [] agree none q a r = simp append-nil (agree q a r)
agree_from states before (row ∷ rows) agree none q a r =
    let parts = none_of_or (row_fault states before row) (rows_fault states (before ++ row ∷ []) rows) none in
    let alone = (right_row states before row parts.0).uncontradicted in
    let more : (q a r : ℕ) → has_other (before ++ row ∷ []) q a r ≡ is_other (target_in (before ++ row ∷ []) q a) r =
    λ q a r.
    has_other-more before row q a r
    ∙ other_of_more (is_at q a row) (target_in before q a) (has_other before q a r) row.to r (agree q a r)
    (λ (e : is_at q a row ≡ true). let m = is_at_means q a row e in rw (sym m.0, sym m.1) (sym (agree row.from row.letter.0 row.to) ∙ alone))
    ∙ ap (λ o. is_other o r) (sym (target_in-more before row q a)) in
    let rest = agree_from states (before ++ row ∷ []) rows more parts.1 q a r in
    rw (append_assoc before (row ∷ []) rows) at rest

agree : (states : ℕ) (rows : List Row) → rows_fault states [] rows ≡ None → (q a r : ℕ) → has_other rows q a r ≡ is_other (target_in rows q a) r
agree states rows none = agree_from states [] rows (λ q a r. refl) none

-- a cell is that of its state and letter
pub cell_at : (states letters : ℕ) (rows : List Row) (q a : ℕ) → q < states → a < letters →
    slice_index_or (cells_of states letters rows) (q * letters + a) None ≡ target_in rows q a
cell_at states letters rows q a hq ha =
    let f : ℕ → Option ℕ = λ i. target_in rows (i / letters) (i % letters) in
    let cell = mul-add-lt q letters a states hq ha in
    get_or-map-range_with_len f 0 (states * letters) (q * letters + a) (q * letters + a) None (omega arith) (omega arith)
    ∙ rw (div-mul-add q letters a ha, mod-mul-add q letters a ha) refl

or_same : (o : Option ℕ) (target : ℕ) → is_other o target ≡ false → option_or o (Some target) ≡ Some target
or_same None target h = refl
or_same (Some t) target h = let same : t ≡ target = grind (arith, nat_tests) in ap (λ n. Some n) same

-- the cells of rows and one row more
cells_of-more : (states letters : ℕ) (rows : List Row) (row : Row) → row.from < states → row.letter.0 < letters →
    is_other (target_in rows row.from row.letter.0) row.to ≡ false →
    set (cells_of states letters rows) (row.from * letters + row.letter.0) (Some row.to) ≡ cells_of states letters (rows ++ row ∷ [])
cells_of-more states letters rows row from known right =
    let f : ℕ → Option ℕ = λ i. target_in rows (i / letters) (i % letters) in
    let g : ℕ → Option ℕ = λ i. target_in (rows ++ row ∷ []) (i / letters) (i % letters) in
    let n = states * letters in
    let cell = row.from * letters + row.letter.0 in
    let old = cells_of states letters rows in
    let long = length-map-range_with_len f 0 n in
    let inside : cell < length old = let c = mul-add-lt row.from letters row.letter.0 states from known in omega arith in
    let q = div-mul-add row.from letters row.letter.0 known in
    let a = mod-mul-add row.from letters row.letter.0 known in
    ext_get_or None (set old cell (Some row.to)) (cells_of states letters (rows ++ row ∷ []))
    (length-set old cell (Some row.to) ∙ long ∙ sym (length-map-range_with_len g 0 n))
    (λ i h.
    let below : i < n = let l = length-set old cell (Some row.to) in omega arith in
    let new : get_or (cells_of states letters (rows ++ row ∷ [])) i None ≡ option_or (f i) (cond (is_at (i / letters) (i % letters) row) (Some row.to) None) =
    get_or-map-range_with_len g 0 n i i None below (omega arith) ∙ target_in-more rows row (i / letters) (i % letters) in
    elim (cases_eq i cell) [
      | inl e ↦
          let here : is_at (i / letters) (i % letters) row ≡ true = rw (e, q, a) (grind (arith, nat_tests)) in
          let there : f i ≡ target_in rows row.from row.letter.0 = rw (e, q, a) refl in
          get_or-set_at old cell i (Some row.to) None e inside
          ∙ sym (new ∙ ap (λ u. option_or (f i) (cond u (Some row.to) None)) here ∙ ap (λ o. option_or o (Some row.to)) there
          ∙ or_same (target_in rows row.from row.letter.0) row.to right)
      | inr other ↦
          let away : is_at (i / letters) (i % letters) row ≡ false =
          elim (cases_Bool (is_at (i / letters) (i % letters) row)) [
            | inl t ↦
                let m = is_at_means (i / letters) (i % letters) row t in
                let same : i ≡ cell = rw (m.0, m.1) (omega (arith, mod-add-div i letters)) in
                absurd (other same)
            | inr f ↦ f
          ] in
          get_or-set_other old cell i (Some row.to) None other ∙ get_or-map-range_with_len f 0 n i i None below (omega arith)
          ∙ sym (new ∙ ap (λ u. option_or (f i) (cond u (Some row.to) None)) away ∙ or_none (f i))
    ])

no_cells : (letters n a : ℕ) → replicate n None ≡ map (λ i. target_in [] (i / letters) (i % letters)) (range_with_len a n)
no_cells letters zero a = refl
no_cells letters (suc n) a = ap (λ cells. None ∷ cells) (no_cells letters n (a + 1))

-- a table without targets has no rows
pub entered_none : (alphabet : DistributedAlphabet) (start : ℕ) (accepting : List Bool) → AreEntered (without_targets alphabet start accepting) []
entered_none alphabet start accepting = record { cells = no_cells (length alphabet.letters) (length accepting * length alphabet.letters) 0; right = refl }

-- nor has a blank one
pub entered_blank : (alphabet : DistributedAlphabet) (states : ℕ) → AreEntered (blank alphabet states) []
entered_blank alphabet states = record { cells = no_cells (length alphabet.letters) (states * length alphabet.letters) 0; right = refl }

module _ (partial : PartialDfa) (rows : List Row) (h : AreEntered partial rows) where
  -- a letter leads where the rows say
  pub target_of_entered : (q a : ℕ) → q < partial.states → a < length partial.alphabet.letters → target_of partial q a ≡ target_in rows q a
  target_of_entered q a hq ha =
      ap (λ cells. slice_index_or cells (q * length partial.alphabet.letters + a) None) h.cells
      ∙ cell_at partial.states (length partial.alphabet.letters) rows q a hq ha

  -- whether a row has another target is seen in the table
  pub other_of_entered : (q a r : ℕ) → q < partial.states → a < length partial.alphabet.letters → has_other rows q a r ≡ is_other (target_of partial q a) r
  other_of_entered q a r hq ha = agree partial.states rows h.right q a r ∙ ap (λ o. is_other o r) (sym (target_of_entered q a hq ha))

  -- one row more
  pub entered_more : (row : Row) → row.from < partial.states → row.to < partial.states → row.letter.0 < length partial.alphabet.letters →
      is_other (target_of partial row.from row.letter.0) row.to ≡ false → AreEntered (entered partial row.from row.letter.0 row.to) (rows ++ row ∷ [])
  entered_more row from to known right =
      let m = length partial.alphabet.letters in
      let there = ap (λ o. is_other o row.to) (sym (target_of_entered row.from row.letter.0 from known)) ∙ right in
      let none = fault_by_other partial.states rows row false from to (other_of_entered row.from row.letter.0 row.to from known ∙ right) in
      record {
        cells = ap (λ cells. set cells (row.from * m + row.letter.0) (Some row.to)) h.cells ∙ cells_of-more partial.states m rows row from known there;
        right = rows_fault-more partial.states [] rows row ∙ rw (h.right, none) refl;
      }

module _ (alphabet : DistributedAlphabet) (states start : ℕ) (accepting : List Bool) (rows : List Row) (a : ℕ) (ha : a < length alphabet.letters) where
  abbrev m : ℕ
  m = length alphabet.letters

  size : length (cells_of states m rows) ≡ states * m
  size = length-map-range_with_len (λ i. target_in rows (i / m) (i % m)) 0 (states * m)

  bounds : (whole : Bool) → states ≤ cond whole states (states + 1)
  bounds true = omega arith
  bounds false = omega arith

  -- in the completed table of rows a letter leads to the target of its row, and where there is none to the added state
  pub step_of_completed : (q : ℕ) → q < states → step_of (completed alphabet states start accepting rows) q a ≡ unwrap_or (target_in rows q a) states
  step_of_completed q hq =
      let all = bounds (is_whole (partial_of alphabet states start accepting rows)) in
      step_of_completion (partial_of alphabet states start accepting rows) q a size (omega arith) ha
      ∙ ap (λ o. unwrap_or o states) (cell_at states m rows q a hq ha)

  -- the added state leads to itself
  pub step_of_added : states < (completed alphabet states start accepting rows).states →
      step_of (completed alphabet states start accepting rows) states a ≡ states
  step_of_added added =
      step_of_completion (partial_of alphabet states start accepting rows) states a size added ha
      ∙ ap (λ o. unwrap_or o states) (get_or-eq_default (cells_of states m rows) None (let long = size in omega arith))

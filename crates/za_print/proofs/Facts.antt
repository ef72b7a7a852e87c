-- What holds of a job's letters, rows, scripts and accepting states.
use Rattle.std.proofs.Common.{◌≡◌, ◌≢◌, ◌∙◌, ap, sym, subst, ℕ, ◌+◌, ◌*◌, ◌/◌, ◌%◌, ◌<◌, ◌≤◌, ◌^◌, zero, suc, Bool, true, false, ◌&&◌, ◌||◌, List, [], ◌∷◌}
use Rattle.std.proofs.Common.{◌++◌, length, refl, append_assoc, length-append, arith, Option, Some, None, inl, inr, eqb-true, eq-eqb, true≢false}
use Rattle.std.specs.Prelude.{◌==◌, nat_lt, slice_index_or}
use Rattle.std.specs.List.{All, filter_map, range_with_len, position_from, cons_option, AllByRecursion}
use Rattle.std.specs.Str.{bytes_eq}
use Rattle.std.proofs.lemmas.Bool.{cases_Bool, cases_eq, and_parts, or_left}
use Rattle.std.proofs.lemmas.Bool.Decides.{nat_tests}
use Rattle.std.proofs.lemmas.Slice.Eq.{bytes_eq-Decides}
use Rattle.std.proofs.Math.Nat.{div-add-mod}
use Rattle.std.proofs.lemmas.List.{ext_get_or}
use Rattle.std.proofs.lemmas.List.FromFn.{get_or-map-range_with_len, length-map-range_with_len}
use Rattle.za_text.specs.Names.{is_name}
use Rattle.za_alpha.specs.Words.{has}
use Rattle.za_alpha.specs.Procs.{members}
use Rattle.za_alpha.specs.Alphabet.{NamedLetter, DistributedAlphabet, IsDistributed, name_at, procs_at}
use Rattle.za_alpha.proofs.RoundTrip.{set_of-members}
use Rattle.za_alpha.proofs.Members.{has-filter, has-range-below}
use Rattle.za_dfa.specs.declared.rows.Row.{Row}
use Rattle.za_dfa.specs.Rows.{is_at, has_other, target_in, cells_of}
use Rattle.za_dfa.proofs.GridLemmas.{row_of_cell}
use Rattle.za_alpha.specs.NewNames.{is_taken}
use Rattle.za_lang.specs.Documents.{acceptance_of}
use Rattle.za_dfa.specs.Partials.{PartialDfa, IsPartial, is_accepting, target_of}
use Rattle.za_lang.specs.declared.version.Version.{Version}
use Rattle.za_lang.specs.Limits.{document_letters}
use Rattle.za_print.specs.Printed as printed
use Rattle.za_print.specs.Printed.{accepting_states, table_rows}
use Rattle.za_print.proofs.ItemLemmas.{Finds}
use Rattle.za_print.proofs.Runs.{AreLetters, AreRows}

-- what holds at each place holds one by one
pub one_by_one : {X : Type 0} (P : X → Type 0) (xs : List X) → All P xs → AllByRecursion P xs
one_by_one P [] h = tt
one_by_one P (x ∷ xs) h = (h 0 x (omega arith), one_by_one P xs (λ k d l. h (suc k) d (omega arith)))

pub weaker_by_one : {X : Type 0} (P Q : X → Type 0) (xs : List X) → ((x : X) → P x → Q x) → AllByRecursion P xs → AllByRecursion Q xs
weaker_by_one P Q [] h all = tt
weaker_by_one P Q (x ∷ xs) h all = (h x all.0, weaker_by_one P Q xs h all.1)

div-add-mod-is : (i m : ℕ) → i / m * m + i % m ≡ i
div-add-mod-is i m = let split = div-add-mod i m in omega arith

-- ---- letters

-- where names tell letters apart, each is the first of its name
found_from : (ls : List NamedLetter) (k a : ℕ) → ((b : ℕ) → b < a → name_at ls b ≢ name_at ls a) → a < length ls
    → position_from (λ (l : NamedLetter). bytes_eq l.name (name_at ls a)) k ls ≡ Some (k + a)
found_from [] k a apart h = absurd (omega arith)
found_from (l ∷ ls) k zero apart h =
    let same : bytes_eq l.name l.name ≡ true = (bytes_eq-Decides l.name l.name).1 refl in
    let e : k ≡ k + 0 = omega arith in
    rw same (ap (λ (n : ℕ). Some n) e)
found_from (l ∷ ls) k (suc a) apart h =
    elim (cases_Bool (bytes_eq l.name (name_at ls a))) [
      | inl t ↦ absurd (apart 0 (omega arith) ((bytes_eq-Decides l.name (name_at ls a)).0 t))
      | inr f ↦
          let e : k + 1 + a ≡ k + suc a = omega arith in
          rw f (found_from ls (k + 1) a (λ b low. apart (suc b) (omega arith)) (omega arith) ∙ ap (λ (n : ℕ). Some n) e)
    ]

pub finds_letters : (alphabet : DistributedAlphabet) → IsDistributed alphabet → Finds alphabet.letters
finds_letters alphabet whole a h = found_from alphabet.letters 0 a (λ b low e. let same = whole.apart b a (omega arith) h e in omega arith) h
    ∙ (let z : 0 + a ≡ a = omega arith in ap (λ (n : ℕ). Some n) z)

name_behind : (front ls : List NamedLetter) (l : NamedLetter) → name_at (front ++ l ∷ ls) (length front) ≡ l.name
name_behind [] ls l = refl
name_behind (f ∷ front) ls l = name_behind front ls l

procs_behind : (front ls : List NamedLetter) (l : NamedLetter) → procs_at (front ++ l ∷ ls) (length front) ≡ l.loc
procs_behind [] ls l = refl
procs_behind (f ∷ front) ls l = procs_behind front ls l

name_before : (front ls : List NamedLetter) (b : ℕ) → b < length front → name_at (front ++ ls) b ≡ name_at front b
name_before [] ls b h = absurd (omega arith)
name_before (f ∷ front) ls zero h = refl
name_before (f ∷ front) ls (suc b) h = name_before front ls b (omega arith)

fresh_name : (name : List ℕ) (front : List NamedLetter) → ((b : ℕ) → b < length front → name_at front b ≢ name) → is_taken front name ≡ false
fresh_name name [] h = refl
fresh_name name (f ∷ front) h =
    elim (cases_Bool (bytes_eq f.name name)) [
      | inl t ↦ absurd (h 0 (omega arith) ((bytes_eq-Decides f.name name).0 t))
      | inr e ↦ rw e (fresh_name name front (λ b low. h (suc b) (omega arith)))
    ]

some_member : (ps : List ℕ) (p : ℕ) → has ps p ≡ true → 0 < length ps
some_member [] p h = absurd (true≢false (sym h))
some_member (q ∷ ps) p h = omega arith

all_members : (ps : List ℕ) (n : ℕ) → ((p : ℕ) → has ps p ≡ true → p < n) → AllByRecursion (λ p. p < n) ps
all_members [] n h = tt
all_members (p ∷ ps) n h =
    (h p (or_left (p == p) (has ps p) (eq-eqb p p refl)), all_members ps n (λ q k. h q (let w : (p == q || has ps q) ≡ true = grind (arith, nat_tests) in w)))

module _ (v : Version) (alphabet : DistributedAlphabet) (whole : IsDistributed alphabet) (short : length alphabet.letters ≤ document_letters v) where
  letters_from : (front ls : List NamedLetter) → front ++ ls ≡ alphabet.letters → AreLetters v alphabet.processes front ls
  letters_from front [] e = tt
  letters_from front (l ∷ ls) e =
      let at : ℕ = length front in
      let size : length (front ++ l ∷ ls) ≡ length front + length (l ∷ ls) = length-append front (l ∷ ls) in
      let long : length (front ++ l ∷ ls) ≡ length alphabet.letters = ap length e in
      let inside : at < length alphabet.letters = omega arith in
      let name : name_at alphabet.letters at ≡ l.name = ap (λ xs. name_at xs at) (sym e) ∙ name_behind front ls l in
      let loc : procs_at alphabet.letters at ≡ l.loc = ap (λ xs. procs_at xs at) (sym e) ∙ procs_behind front ls l in
      let process = whole.located.some at inside in
      let mine : (p : ℕ) → has (members l.loc) p ≡ true → p < alphabet.processes =
      λ p k. whole.located.below at p inside (ap (λ s. has (members s) p) loc ∙ k) in (
        record {
          few = omega arith;
          name = subst (λ n. is_name n ≡ true) name (whole.names at inside);
          fresh = fresh_name l.name front (λ b low same.
              let there : name_at alphabet.letters b ≡ name_at front b = ap (λ xs. name_at xs b) (sym e) ∙ name_before front (l ∷ ls) b low in
              let twice = whole.apart b at (omega arith) inside (there ∙ same ∙ sym name) in
              omega arith);
          some = some_member (members l.loc) process.0 (ap (λ s. has (members s) process.0) (sym loc) ∙ process.1);
          procs = all_members (members l.loc) alphabet.processes mine;
          whole = set_of-members l.loc (subst (λ s. s.0 < 2 ^ 16) loc (whole.small at inside));
        },
        letters_from (front ++ l ∷ []) ls (append_assoc front (l ∷ []) ls ∙ e),
      )

  pub letters_fit : AreLetters v alphabet.processes [] alphabet.letters
  letters_fit = letters_from [] alphabet.letters refl

-- ---- rows

module _ (lang : PartialDfa) (whole : IsPartial lang) where
  -- a row of the table
  record IsRowOf (row : Row) : Type 0 where
    pub from : row.from < lang.states
    pub letter : row.letter.0 < length lang.alphabet.letters
    pub to : row.to < lang.states
    pub target : target_of lang row.from row.letter.0 ≡ Some row.to

  row_of_target : (i to : ℕ) → i < lang.states * length lang.alphabet.letters → slice_index_or lang.targets i None ≡ Some to
      → IsRowOf (record { from = i / length lang.alphabet.letters; letter = record { 0 = i % length lang.alphabet.letters }; to = to })
  row_of_target i to inside e =
      let at = row_of_cell i lang.states (length lang.alphabet.letters) inside in
      let cell : i / length lang.alphabet.letters * length lang.alphabet.letters + i % length lang.alphabet.letters ≡ i =
      div-add-mod-is i (length lang.alphabet.letters) in
      record { from = at.0; letter = at.1; to = whole.targets_below i to e; target = ap (λ n. slice_index_or lang.targets n None) cell ∙ e }

  same_target : (row : Row) (q a to : ℕ) → IsRowOf row → target_of lang q a ≡ Some to → is_at q a row ≡ true → row.to ≡ to
  same_target row q a to h e t =
      let parts = and_parts (row.from == q) (row.letter.0 == a) t in
      let from : row.from ≡ q = eqb-true _ _ parts.0 in
      let letter : row.letter.0 ≡ a = eqb-true _ _ parts.1 in
      let same : Some row.to ≡ Some to = sym h.target ∙ ap (λ n. target_of lang n row.letter.0) from ∙ ap (target_of lang q) letter ∙ e in
      cc

  -- no row has another target
  alone_among : (front : List Row) (q a to : ℕ) → AllByRecursion IsRowOf front → target_of lang q a ≡ Some to → has_other front q a to ≡ false
  alone_among [] q a to all e = refl
  alone_among (row ∷ front) q a to all e =
      elim (cases_Bool (is_at q a row)) [
        | inl t ↦
            let same : (row.to == to) ≡ true = eq-eqb _ _ (same_target row q a to all.0 e t) in
            rw (t, same) (alone_among front q a to all.1 e)
        | inr f ↦ rw f (alone_among front q a to all.1 e)
      ]

  both_by_one : (front : List Row) (row : Row) → AllByRecursion IsRowOf front → IsRowOf row → AllByRecursion IsRowOf (front ++ row ∷ [])
  both_by_one [] row all h = (h, tt)
  both_by_one (r ∷ front) row all h = (all.0, both_by_one front row all.1 h)

  rows_from : (front : List Row) (j k : ℕ) → AllByRecursion IsRowOf front → j + k ≤ lang.states * length lang.alphabet.letters
      → AreRows lang.states lang.alphabet.letters front (filter_map (printed.row_of_cell lang) (range_with_len j k))
  rows_from front j zero all h = tt
  rows_from front j (suc k) all h = by_target (slice_index_or lang.targets j None) refl (λ fronts more. rows_from fronts (j + 1) k more (omega arith))
    where
      by_target : (o : Option ℕ) → slice_index_or lang.targets j None ≡ o
          → ((fronts : List Row) → AllByRecursion IsRowOf fronts →
          AreRows lang.states lang.alphabet.letters fronts (filter_map (printed.row_of_cell lang) (range_with_len (j + 1) k)))
          → AreRows lang.states lang.alphabet.letters front (filter_map (printed.row_of_cell lang) (range_with_len j (suc k)))
      by_target None e next = rw e (next front all)
      by_target (Some to) e next =
          let row : Row = record { from = j / length lang.alphabet.letters; letter = record { 0 = j % length lang.alphabet.letters }; to = to } in
          let is : IsRowOf row = row_of_target j to (omega arith) e in
          rw e (
            record { from = is.from; letter = is.letter; to = is.to; alone = alone_among front row.from row.letter.0 to all is.target },
            next (front ++ row ∷ []) (both_by_one front row all is),
          )

  pub rows_fit : AreRows lang.states lang.alphabet.letters [] (table_rows lang)
  rows_fit = rows_from [] 0 (lang.states * length lang.alphabet.letters) tt (omega arith)

  -- the target that rows give a cell
  abbrev target_by : List Row → ℕ → Option ℕ
  target_by rows i = target_in rows (i / length lang.alphabet.letters) (i % length lang.alphabet.letters)

  other_cell : (c i : ℕ) (rest : List Row) → c ≢ i → target_by (cons_option (printed.row_of_cell lang c) rest) i ≡ target_by rest i
  other_cell c i rest ne = by_target (slice_index_or lang.targets c None) refl
    where
      letters : ℕ
      letters = length lang.alphabet.letters

      by_target : (o : Option ℕ) → slice_index_or lang.targets c None ≡ o → target_by (cons_option (printed.row_of_cell lang c) rest) i ≡ target_by rest i
      by_target None e = rw e refl
      by_target (Some to) e =
          let m = length lang.alphabet.letters in
          let apart : (c / m == i / m && c % m == i % m) ≡ false =
          elim (cases_Bool (c / m == i / m && c % m == i % m)) [
            | inl t ↦
                let parts = and_parts (c / m == i / m) (c % m == i % m) t in
                let q : c / m ≡ i / m = eqb-true _ _ parts.0 in
                let a : c % m ≡ i % m = eqb-true _ _ parts.1 in
                let same : c ≡ i = sym (div-add-mod-is c m) ∙ ap (λ n. n * m + c % m) q ∙ ap (λ n. i / m * m + n) a ∙ div-add-mod-is i m in
                absurd (ne same)
            | inr f ↦ f
          ] in
          rw e (rw apart refl)

  same_cell : (i : ℕ) (rest : List Row) (o : Option ℕ) → slice_index_or lang.targets i None ≡ o → target_by rest i ≡ None →
      target_by (cons_option (printed.row_of_cell lang i) rest) i ≡ o
  same_cell i rest None e none = rw e none
  same_cell i rest (Some to) e none =
      let m = length lang.alphabet.letters in
      let q : (i / m == i / m) ≡ true = eq-eqb _ _ refl in
      let a : (i % m == i % m) ≡ true = eq-eqb _ _ refl in
      rw e (rw (q, a) refl)

  none_past : (j k i : ℕ) → i < j → target_by (filter_map (printed.row_of_cell lang) (range_with_len j k)) i ≡ None
  none_past j zero i h = refl
  none_past j (suc k) i h = other_cell j i (filter_map (printed.row_of_cell lang) (range_with_len (j + 1) k)) (λ e. omega arith)
      ∙ none_past (j + 1) k i (omega arith)

  found_at : (j k i : ℕ) → j ≤ i → i < j + k → target_by (filter_map (printed.row_of_cell lang) (range_with_len j k)) i ≡ slice_index_or lang.targets i None
  found_at j zero i low high = absurd (omega arith)
  found_at j (suc k) i low high =
      elim (cases_eq i j) [
        | inl e ↦
            subst (λ n. target_by (cons_option (printed.row_of_cell lang n) (filter_map (printed.row_of_cell lang) (range_with_len (j + 1) k))) i
            ≡ slice_index_or lang.targets i None) e
            (same_cell i (filter_map (printed.row_of_cell lang) (range_with_len (j + 1) k)) (slice_index_or lang.targets i None) refl
            (none_past (j + 1) k i (omega arith)))
        | inr ne ↦
            other_cell j i (filter_map (printed.row_of_cell lang) (range_with_len (j + 1) k)) (λ e. ne (sym e))
            ∙ found_at (j + 1) k i (let w : j + 1 ≤ i = omega arith in w) (omega arith)
      ]

  -- the rows give the targets back
  pub targets_back : cells_of lang.states (length lang.alphabet.letters) (table_rows lang) ≡ lang.targets
  targets_back =
      let n = lang.states * length lang.alphabet.letters in
      let size : length (cells_of lang.states (length lang.alphabet.letters) (table_rows lang)) ≡ n =
      length-map-range_with_len (target_by (table_rows lang)) 0 n in
      ext_get_or None (cells_of lang.states (length lang.alphabet.letters) (table_rows lang)) lang.targets (size ∙ sym whole.targets_length)
      (λ i h.
      let below : i < n = omega arith in
      get_or-map-range_with_len (target_by (table_rows lang)) 0 n i i None below (omega arith) ∙ found_at 0 n i (omega arith) (omega arith))

  -- ---- accepting states

  has_accepting : (q : ℕ) → has (accepting_states lang) q ≡ (is_accepting lang q && nat_lt q lang.states)
  has_accepting q = has-filter (is_accepting lang) (range_with_len 0 lang.states) q ∙ ap (λ b. is_accepting lang q && b) (has-range-below lang.states q)

  pub accepting_below : AllByRecursion (λ q. q < lang.states) (accepting_states lang)
  accepting_below =
      all_members (accepting_states lang) lang.states (λ q h.
      let low : nat_lt q lang.states ≡ true = (and_parts (is_accepting lang q) (nat_lt q lang.states) (sym (has_accepting q) ∙ h)).1 in
      grind (arith, nat_tests))

  and_right : (a b : Bool) → b ≡ true → (a && b) ≡ a
  and_right true b h = h
  and_right false b h = refl

  -- the accepting states give the marks back
  pub accepting_back : acceptance_of lang.states (accepting_states lang) ≡ lang.accepting
  accepting_back =
      let n = lang.states in
      let size : length (acceptance_of n (accepting_states lang)) ≡ n = length-map-range_with_len (has (accepting_states lang)) 0 n in
      ext_get_or false (acceptance_of n (accepting_states lang)) lang.accepting (size ∙ sym whole.accepting_length)
      (λ q h.
      let below : q < n = omega arith in
      let low : nat_lt q n ≡ true = grind (arith, nat_tests) in
      get_or-map-range_with_len (has (accepting_states lang)) 0 n q q false below (omega arith) ∙ has_accepting q
      ∙ and_right (is_accepting lang q) (nat_lt q n) low)

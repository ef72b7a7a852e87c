-- The rows that say an alphabet's letters make that alphabet.
use Rattle.std.proofs.Common.{◌≡◌, ℕ, suc, ◌+◌, ◌<◌, ◌≤◌, ◌^◌, true, false, ◌&&◌, eqb, not, List, [], ◌∷◌, ◌++◌, length, get_or, map, None, refl, sym, ap}
use Rattle.std.proofs.Common.{subst, ◌∙◌, arith, inl, inr, append_assoc, length-append}
use Rattle.std.specs.Prelude.{nat_le, nat_lt}
use Rattle.std.specs.Int.{bit_at}
use Rattle.std.specs.List.{list_any}
use Rattle.std.specs.Str.{bytes_eq}
use Rattle.std.proofs.lemmas.Bool.{cases_Bool, or_left, or_right, and_parts}
use Rattle.std.proofs.lemmas.Bool.Decides.{nat_tests}
use Rattle.std.proofs.Math.Seq.{get_or-append_seam}
use Rattle.std.proofs.lemmas.List.{get_or_append_left}
use Rattle.std.proofs.lemmas.Slice.Eq.{bytes_eq-Decides}
use Rattle.za_alpha.specs.declared.procs.Procs.{Procs}
use Rattle.za_alpha.specs.declared.alphabet.LetterRow.{LetterRow}
use Rattle.za_alpha.specs.Limits.{most_processes, most_letters}
use Rattle.za_alpha.specs.Words.{has}
use Rattle.za_names.specs.Names.{is_name}
use Rattle.za_alpha.specs.Procs.{members, no_process}
use Rattle.za_alpha.specs.Rows.{letter_fault, letters_fault, alphabet_fault, set_of, letter_of_row, alphabet_of_rows}
use Rattle.za_alpha.specs.Alphabet.{DistributedAlphabet, NamedLetter, IsDistributed, procs_at, name_at}
use Rattle.za_alpha.proofs.Members.{has-members, members-same}
use Rattle.za_alpha.proofs.Distributed.{has-set_of, set-small}

-- the row says the letter: its name, and its processes in rising order
pub record Says (row : LetterRow) (letters : List NamedLetter) (a : ℕ) : Type 0 where
  pub name : row.name.items ≡ name_at letters a
  pub procs : row.procs.items ≡ members (procs_at letters a)

-- each row says its letter
pub record SayAll (rows : List LetterRow) (letters : List NamedLetter) : Type 0 where
  pub size : length rows ≡ length letters
  pub each : (a : ℕ) (d : LetterRow) → a < length rows → Says (get_or rows a d) letters a

none_chain : (n : ℕ) (before : List LetterRow) (row : LetterRow) → is_name row.name.items ≡ true →
    list_any (λ (earlier : LetterRow). bytes_eq earlier.name.items row.name.items) before ≡ false → eqb (length row.procs.items) 0 ≡ false →
    list_any (λ p. nat_le n p) row.procs.items ≡ false → letter_fault n before row ≡ None
unfolding letter_fault
none_chain n before row named fresh some there = rw (named, fresh, some, there) refl

-- no earlier row has the name of the letter at a place, where names tell letters apart
fresh_before : (name : List ℕ) (rows : List LetterRow) →
    ((b : ℕ) (d : LetterRow) → b < length rows → (get_or rows b d).name.items ≡ name → bytes_eq name name ≡ false) →
    list_any (λ (earlier : LetterRow). bytes_eq earlier.name.items name) rows ≡ false
fresh_before name [] h = refl
fresh_before name (row ∷ rows) h =
    elim (cases_Bool (bytes_eq row.name.items name)) [
      | inl t ↦
          let e = (bytes_eq-Decides row.name.items name).0 t in
          let f : bytes_eq name name ≡ false = h 0 row (omega arith) e in
          let g : bytes_eq name name ≡ true = (bytes_eq-Decides name name).1 refl in absurd (let x : true ≡ false = sym g ∙ f in cc)
      | inr f ↦ rw f (fresh_before name rows (λ b d k e. h (suc b) d (omega arith) e))
    ]

nothing_from : (n : ℕ) (ps : List ℕ) → ((p : ℕ) → has ps p ≡ true → p < n) → list_any (λ p. nat_le n p) ps ≡ false
nothing_from n [] h = refl
nothing_from n (p ∷ ps) h =
    let low : p < n = h p (or_left (eqb p p) (has ps p) (grind (arith, nat_tests))) in
    let f : nat_le n p ≡ false = grind (arith, nat_tests) in
    rw f (nothing_from n ps (λ q k. h q (or_right (eqb p q) (has ps q) k)))

not_empty : (ps : List ℕ) (p : ℕ) → has ps p ≡ true → eqb (length ps) 0 ≡ false
not_empty [] p h = absurd (cc)
not_empty (q ∷ ps) p h = grind (arith, nat_tests)

pub small_member : (s : Procs) (p : ℕ) → has (members s) p ≡ true → p < 16
small_member s p h = let low : nat_lt p 16 ≡ true = (and_parts (eqb (bit_at s.0 p) 1) (nat_lt p 16) (sym (has-members s p) ∙ h)).1 in grind (arith, nat_tests)

-- the set of the members of a set is the set
pub set_of-members : (s : Procs) → s.0 < 2 ^ 16 → set_of (members s) ≡ s
set_of-members s small =
    let at : ℕ → Procs = λ n. record { 0 = n } in
    ap at (members-same (set_of (members s)).0 s.0 (set-small no_process (members s) (omega arith) (small_member s)) small
    (λ p. has-set_of (members s) p (small_member s)))

-- the letters that the rows say
letters_said : (rows : List LetterRow) (letters : List NamedLetter) → SayAll rows letters → ((a : ℕ) → a < length letters → (procs_at letters a).0 < 2 ^ 16) →
    map letter_of_row rows ≡ letters
letters_said [] [] h small = refl
letters_said [] (l ∷ ls) h small = absurd (omega (arith, h.size))
letters_said (row ∷ rows) [] h small = absurd (omega (arith, h.size))
letters_said (row ∷ rows) (l ∷ ls) h small =
    let first : Says row (l ∷ ls) 0 = h.each 0 row (omega arith) in
    let rest = letters_said rows ls (record { size = omega (arith, h.size); each = λ a d k. later row rows l ls a d (h.each (suc a) d (omega arith)) })
    (λ a k. small (suc a) (omega arith)) in
    let own : set_of row.procs.items ≡ l.loc = ap set_of first.procs ∙ set_of-members l.loc (small 0 (omega arith)) in
    let made : List ℕ → Procs → NamedLetter = λ name loc. record { name = name; loc = loc } in
    let same : letter_of_row row ≡ l = ap (λ name. made name (set_of row.procs.items)) first.name ∙ ap (made l.name) own in
    cc
  where
    later : (row : LetterRow) (rows : List LetterRow) (l : NamedLetter) (ls : List NamedLetter) (a : ℕ) (d : LetterRow) →
        Says (get_or (row ∷ rows) (suc a) d) (l ∷ ls) (suc a) → Says (get_or rows a d) ls a
    later row rows l ls a d h = record { name = h.name; procs = h.procs }

module _ (alphabet : DistributedAlphabet) (whole : IsDistributed alphabet) where
  none_from : (before rows : List LetterRow) → SayAll (before ++ rows) alphabet.letters → letters_fault alphabet.processes before rows ≡ None
  none_from before [] h = refl
  none_from before (row ∷ rows) h =
      let at : ℕ = length before in
      let size : length (before ++ row ∷ rows) ≡ length before + length (row ∷ rows) = length-append before (row ∷ rows) in
      let inside : at < length (before ++ row ∷ rows) = omega arith in
      let there : at < length alphabet.letters = omega (arith, h.size) in
      let says : Says row alphabet.letters at =
      subst (λ (r : LetterRow). Says r alphabet.letters at) (get_or-append_seam before row rows row) (h.each at row inside) in
      let named : is_name row.name.items ≡ true = ap is_name says.name ∙ whole.names at there in
      let fresh : list_any (λ (earlier : LetterRow). bytes_eq earlier.name.items row.name.items) before ≡ false =
      fresh_before row.name.items before (λ b d k e.
      let low : b < length (before ++ row ∷ rows) = omega arith in
      let small : b < length alphabet.letters = omega (arith, h.size) in
      let other : Says (get_or before b d) alphabet.letters b =
      subst (λ (r : LetterRow). Says r alphabet.letters b) (get_or_append_left before (row ∷ rows) d b k) (h.each b d low) in
      let same : b ≡ at = whole.apart b at small there (sym other.name ∙ e ∙ says.name) in absurd (omega arith)) in
      let process = whole.located.some at there in
      let some : eqb (length row.procs.items) 0 ≡ false = not_empty row.procs.items process.0 (ap (λ ps. has ps process.0) says.procs ∙ process.1) in
      let below : list_any (λ p. nat_le alphabet.processes p) row.procs.items ≡ false =
      nothing_from alphabet.processes row.procs.items (λ p k. whole.located.below at p there (sym (ap (λ ps. has ps p) says.procs) ∙ k)) in
      let none = none_chain alphabet.processes before row named fresh some below in
      let rest = none_from (before ++ row ∷ []) rows (subst (λ rs. SayAll rs alphabet.letters) (sym (append_assoc before (row ∷ []) rows)) h) in
      rw none rest

  in_range : (n m k : ℕ) → 1 ≤ n → n ≤ m → not (nat_le 1 n && nat_le n m) ≡ false
  in_range n m k low high = grind (arith, nat_tests)

  -- the rows have no fault, and make the alphabet
  pub rows_make : (rows : List LetterRow) → SayAll rows alphabet.letters → (alphabet_fault alphabet.processes rows ≡ None)
      × (alphabet_of_rows alphabet.processes rows ≡ alphabet)
  rows_make rows h =
      let n = alphabet.processes in
      let counted : not (nat_le 1 n && nat_le n most_processes) ≡ false =
      in_range n most_processes 0 (let k = whole.some_process in omega arith) whole.few_processes in
      let many : not (nat_le 1 (length rows) && nat_le (length rows) most_letters) ≡ false =
      in_range (length rows) most_letters 0 (let k = whole.some_letter in omega (arith, h.size)) (let k = whole.few_letters in omega (arith, h.size)) in
      let made : List NamedLetter → DistributedAlphabet = λ ls. record { processes = n; letters = ls } in
      (rw (counted, many) (none_from [] rows h), ap made (letters_said rows alphabet.letters h whole.small))

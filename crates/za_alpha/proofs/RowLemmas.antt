-- What follows where rows have no fault, and of a letter's place.
use Rattle.std.proofs.Common.{◌≡◌, ℕ, zero, suc, ◌<◌, ◌≤◌, Bool, true, false, ◌||◌, ◌&&◌, eqb, cond, not, List, [], ◌∷◌, ◌+◌, ◌++◌, length, take, drop, get_or}
use Rattle.std.proofs.Common.{map, Option, Some, None, refl, sym, ap, ◌∙◌, arith, drop-cons}
use Rattle.std.proofs.lemmas.List.{take_more}
use Rattle.std.specs.Prelude.{nat_le}
use Rattle.std.specs.List.{list_any, AllByRecursion}
use Rattle.std.specs.Option.{option_or}
use Rattle.std.proofs.lemmas.Bool.{leb-false}
use Rattle.std.proofs.lemmas.Bool.Decides.{nat_tests}
use Rattle.std.specs.Str.{bytes_eq}
use Rattle.za_alpha.specs.declared.alphabet.LetterRow.{LetterRow}
use Rattle.za_alpha.specs.declared.letters.Entry.{Entry}
use Rattle.za_alpha.specs.declared.fault.AlphaFault.{AlphaFault}
use Rattle.za_names.specs.Names.{is_name}
use Rattle.za_alpha.specs.Limits.{most_processes, most_letters}
use Rattle.za_alpha.specs.Rows.{letter_fault, letters_fault, alphabet_fault}
use Rattle.za_alpha.specs.Alphabet.{NamedLetter, procs_at, name_at}
use Rattle.za_alpha.specs.Private.Begun.{letter_of_entry}

-- an if-chain gives none exactly where each test fails
pub none_of_cond : {X : Type 0} (b : Bool) (x : X) (r : Option X) → cond b (Some x) r ≡ None → (b ≡ false) × (r ≡ None)
none_of_cond true x r h = absurd (cc)
none_of_cond false x r h = (refl, h)

pub none_of_or : {X : Type 0} (a b : Option X) → option_or a b ≡ None → (a ≡ None) × (b ≡ None)
none_of_or None b h = (refl, h)
none_of_or (Some x) b h = absurd (cc)

none_of_any : (a b : Bool) → (a || b) ≡ false → (a ≡ false) × (b ≡ false)
none_of_any true b h = absurd (cc)
none_of_any false b h = (refl, h)

below_of_any : (n : ℕ) (ps : List ℕ) → n ≤ 16 → list_any (λ p. nat_le n p) ps ≡ false → AllByRecursion (λ p. p < 16) ps
below_of_any n [] h none = tt
below_of_any n (p ∷ ps) h none =
    let parts = none_of_any (nat_le n p) (list_any (λ q. nat_le n q) ps) none in
    let below : p < n = leb-false n p parts.0 in
    (omega arith, below_of_any n ps h parts.1)

-- a row that passes its tests
pub record IsRightRow (n : ℕ) (before : List LetterRow) (row : LetterRow) : Type 0 where
  pub named : is_name row.name.items ≡ true
  pub fresh : list_any (λ (earlier : LetterRow). bytes_eq earlier.name.items row.name.items) before ≡ false
  pub some : eqb (length row.procs.items) 0 ≡ false
  pub there : list_any (λ p. nat_le n p) row.procs.items ≡ false

pub not_false : (b : Bool) → not b ≡ false → b ≡ true
not_false true h = refl
not_false false h = absurd (cc)

pub right_row : (n : ℕ) (before : List LetterRow) (row : LetterRow) → letter_fault n before row ≡ None → IsRightRow n before row
unfolding letter_fault
right_row n before row none =
    let named = none_of_cond (not (is_name row.name.items)) _ _ none in
    let fresh = none_of_cond (list_any (λ (r : LetterRow). bytes_eq r.name.items row.name.items) before) _ _ named.1 in
    let some = none_of_cond (eqb (length row.procs.items) 0) _ _ fresh.1 in
    let there = none_of_cond (list_any (λ p. nat_le n p) row.procs.items) _ _ some.1 in
    record { named = not_false (is_name row.name.items) named.0; fresh = fresh.0; some = some.0; there = there.0 }

-- the numbers of processes and letters are right, and each row
pub record IsRightAlphabet (n : ℕ) (rows : List LetterRow) : Type 0 where
  pub some_process : 1 ≤ n
  pub few_processes : n ≤ most_processes
  pub some_letter : 1 ≤ length rows
  pub few_letters : length rows ≤ most_letters
  pub rows_right : letters_fault n [] rows ≡ None

pub right_alphabet : (n : ℕ) (rows : List LetterRow) → alphabet_fault n rows ≡ None → IsRightAlphabet n rows
right_alphabet n rows none =
    let counted = none_of_cond (not (nat_le 1 n && nat_le n most_processes)) _ _ none in
    let many = none_of_cond (not (nat_le 1 (length rows) && nat_le (length rows) most_letters)) _ _ counted.1 in
    let a : (nat_le 1 n && nat_le n most_processes) ≡ true = not_false (nat_le 1 n && nat_le n most_processes) counted.0 in
    let b : (nat_le 1 (length rows) && nat_le (length rows) most_letters) ≡ true =
    not_false (nat_le 1 (length rows) && nat_le (length rows) most_letters) many.0 in
    record {
      some_process = grind (arith, nat_tests);
      few_processes = grind (arith, nat_tests);
      some_letter = grind (arith, nat_tests);
      few_letters = grind (arith, nat_tests);
      rows_right = many.1;
    }

-- the processes of the letter at a place
pub procs_at-map : (es : List Entry) (i : ℕ) (d : Entry) → i < length es → procs_at (map letter_of_entry es) i ≡ (get_or es i d).loc
procs_at-map [] i d h = absurd (omega arith)
procs_at-map (e ∷ es) zero d h = refl
procs_at-map (e ∷ es) (suc i) d h = procs_at-map es i d (omega arith)

-- the name of the letter at a place
pub name_at-map : {A : Type 0} (f : A → NamedLetter) (xs : List A) (i : ℕ) (d : A) → i < length xs → name_at (map f xs) i ≡ (f (get_or xs i d)).name
name_at-map f [] i d h = absurd (omega arith)
name_at-map f (x ∷ xs) zero d h = refl
name_at-map f (x ∷ xs) (suc i) d h = name_at-map f xs i d (omega arith)

-- a row without fault leaves the first fault to the rows after it
pub fault-later : (n : ℕ) (rows : List LetterRow) (a : ℕ) (d : LetterRow) → a < length rows → letter_fault n (take a rows) (get_or rows a d) ≡ None →
    letters_fault n (take (a + 1) rows) (drop (a + 1) rows) ≡ letters_fault n (take a rows) (drop a rows)
fault-later n rows a d here none =
    let row : LetterRow = get_or rows a d in
    let next : suc a ≡ a + 1 = omega arith in
    let first : drop a rows ≡ row ∷ drop (a + 1) rows = drop-cons rows a d here ∙ ap (λ k. row ∷ drop k rows) next in
    let later : List LetterRow → Option AlphaFault = λ before. letters_fault n before (drop (a + 1) rows) in
    ap later (take_more rows a d here)
    ∙ sym (ap (letters_fault n (take a rows)) first ∙ ap (λ (fault : Option AlphaFault). option_or fault (later (take a rows ++ row ∷ []))) none)

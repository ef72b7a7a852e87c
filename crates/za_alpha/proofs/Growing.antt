-- Letters with one letter more.
use Rattle.std.proofs.Common.{◌≡◌, ◌≢◌, ℕ, zero, suc, ◌+◌, ◌<◌, ◌≤◌, ◌^◌, Bool, ◌||◌, true, false, inl, inr, not, List, [], ◌∷◌, ◌++◌, length, slice_index}
use Rattle.std.proofs.Common.{slice_set, Some, None, IsTrue, refl, sym, ap, subst, ◌∙◌, arith, length-append, append_assoc, append-nil, take, get_or, map}
use Rattle.std.proofs.lemmas.Bool.{cases_eq}
use Rattle.std.proofs.lemmas.List.{length-map, length-take-le, map-append, take_more}
use Rattle.std.specs.List.{list_any}
use Rattle.std.specs.Str.{bytes_eq}
use Rattle.za_alpha.specs.declared.fault.NameFault.TheVariants.{Bad, Repeated}
use Rattle.std.proofs.lemmas.Slice.Eq.{bytes_eq-Decides}
use Rattle.za_names.specs.Names.{is_name}
use Rattle.za_alpha.specs.declared.procs.Procs.{Procs}
use Rattle.za_alpha.specs.declared.alphabet.LetterRow.{LetterRow}
use Rattle.za_alpha.specs.Limits.{most_processes, most_letters}
use Rattle.za_alpha.specs.Words.{has}
use Rattle.za_alpha.specs.Procs.{members}
use Rattle.za_alpha.specs.Rows.{letter_fault, letters_fault, alphabet_fault, set_of, letter_of_row, alphabet_of_rows}
use Rattle.za_alpha.specs.Alphabet.{DistributedAlphabet, NamedLetter, name_at, procs_at, place_of}
use Rattle.za_alpha.specs.NewNames.{is_taken, name_fault}
use Rattle.za_alpha.specs.Private.Index.{keys, key_of, key_at, AreChains}
use Rattle.za_alpha.specs.Private.Begun.{IsBegun}
use Rattle.za_alpha.specs.Private.NextRow.{IsNextRow}
use Rattle.za_alpha.proofs.Distributed.{has-set_of, below_of_none, first_process}
use Rattle.za_alpha.proofs.RowLemmas.{none_of_cond, none_of_or, not_false, IsRightRow, right_row, right_alphabet}
use Rattle.za_alpha.proofs.Indexed.{chains-same, chains-more, taken-some, taken-none}

-- the letters before keep their names and processes, and the new one has its own
name-before : (ls : List NamedLetter) (l : NamedLetter) (a : ℕ) → a < length ls → name_at (ls ++ l ∷ []) a ≡ name_at ls a
name-before [] l a h = absurd (omega arith)
name-before (x ∷ ls) l zero h = refl
name-before (x ∷ ls) l (suc a) h = name-before ls l a (omega arith)

name-last : (ls : List NamedLetter) (l : NamedLetter) → name_at (ls ++ l ∷ []) (length ls) ≡ l.name
name-last [] l = refl
name-last (x ∷ ls) l = name-last ls l

procs-before : (ls : List NamedLetter) (l : NamedLetter) (a : ℕ) → a < length ls → procs_at (ls ++ l ∷ []) a ≡ procs_at ls a
procs-before [] l a h = absurd (omega arith)
procs-before (x ∷ ls) l zero h = refl
procs-before (x ∷ ls) l (suc a) h = procs-before ls l a (omega arith)

procs-last : (ls : List NamedLetter) (l : NamedLetter) → procs_at (ls ++ l ∷ []) (length ls) ≡ l.loc
procs-last [] l = refl
procs-last (x ∷ ls) l = procs-last ls l

-- no letter has a name that isn't taken
not-taken : (ls : List NamedLetter) (name : List ℕ) → is_taken ls name ≡ false → (a : ℕ) → a < length ls → name_at ls a ≢ name
not-taken [] name none a h e = absurd (omega arith)
not-taken (l ∷ ls) name none zero h e =
    let same : bytes_eq l.name name ≡ true = (bytes_eq-Decides l.name name).1 e in
    let f : true ≡ false = sym (rw same refl) ∙ none in cc
not-taken (l ∷ ls) name none (suc a) h e = not-taken ls name (rest-false (bytes_eq l.name name) (is_taken ls name) none) a (omega arith) e
  where
    rest-false : (a b : Bool) → (a || b) ≡ false → b ≡ false
    rest-false true b h = absurd (cc)
    rest-false false b h = h

-- what is asked of one letter more
pub record IsNextLetter (alphabet : DistributedAlphabet) (l : NamedLetter) : Type 0 where
  pub named : name_fault alphabet.letters l.name ≡ None
  pub room : length alphabet.letters < most_letters
  pub some : members l.loc ≢ []
  pub below : (p : ℕ) → IsTrue (has (members l.loc) p) → p < alphabet.processes
  pub small : l.loc.0 < 2 ^ 16

has-some : (ps : List ℕ) → ps ≢ [] → (p : ℕ) × IsTrue (has ps p)
has-some [] h = absurd (h refl)
has-some (p ∷ ps) h = first_process (p ∷ ps) (grind arith)

module _ (alphabet : DistributedAlphabet) (l : NamedLetter) (begun : IsBegun alphabet) (next : IsNextLetter alphabet l) where
  -- letters with one letter more are letters of an alphabet that is being made
  pub begun-more : IsBegun (record alphabet { letters = alphabet.letters ++ l ∷ [] })
  begun-more =
      let n : ℕ = length alphabet.letters in
      let more : List NamedLetter = alphabet.letters ++ l ∷ [] in
      let size : length more ≡ n + 1 = length-append alphabet.letters (l ∷ []) in
      let room = next.room in
      let named = none_of_cond (not (is_name l.name)) _ _ next.named in
      let fresh = none_of_cond (is_taken alphabet.letters l.name) _ _ named.1 in
      let good : is_name l.name ≡ true = not_false (is_name l.name) named.0 in
      let old : (a : ℕ) → a < n → name_at more a ≡ name_at alphabet.letters a = name-before alphabet.letters l in
      let new : name_at more n ≡ l.name = name-last alphabet.letters l in
      let own : procs_at more n ≡ l.loc = procs-last alphabet.letters l in
      let other : (a : ℕ) → a < n → name_at alphabet.letters a ≢ l.name = not-taken alphabet.letters l.name fresh.0 in
      record {
        some_process = begun.some_process;
        few_processes = begun.few_processes;
        few_letters = omega arith;
        names = λ a h. elim (cases_eq a n) [
          | inl e ↦ ap is_name (ap (name_at more) e ∙ new) ∙ good
          | inr ne ↦ ap is_name (old a (omega arith)) ∙ begun.names a (omega arith)
        ];
        apart = λ a b la lb e. elim (cases_eq a n) [
          | inl ea ↦ elim (cases_eq b n) [
            | inl eb ↦ ea ∙ sym eb
            | inr nb ↦ absurd (other b (omega arith) (sym (old b (omega arith)) ∙ sym e ∙ ap (name_at more) ea ∙ new))
          ]
          | inr na ↦ elim (cases_eq b n) [
            | inl eb ↦ absurd (other a (omega arith) (sym (old a (omega arith)) ∙ e ∙ ap (name_at more) eb ∙ new))
            | inr nb ↦ begun.apart a b (omega arith) (omega arith) (sym (old a (omega arith)) ∙ e ∙ old b (omega arith))
          ]
        ];
        small = λ a h. elim (cases_eq a n) [
          | inl e ↦ let P : Procs → Type 0 = λ s. s.0 < 2 ^ 16 in subst P (sym (ap (procs_at more) e ∙ own)) next.small
          | inr ne ↦ let P : Procs → Type 0 = λ s. s.0 < 2 ^ 16 in subst P (sym (procs-before alphabet.letters l a (omega arith))) (begun.small a (omega arith))
        ];
        located = record {
          some = λ a h. elim (cases_eq a n) [
            | inl e ↦
                let P : Procs → Type 0 = λ s. (p : ℕ) × IsTrue (has (members s) p) in
                subst P (sym (ap (procs_at more) e ∙ own)) (has-some (members l.loc) next.some)
            | inr ne ↦
                let P : Procs → Type 0 = λ s. (p : ℕ) × IsTrue (has (members s) p) in
                subst P (sym (procs-before alphabet.letters l a (omega arith))) (begun.located.some a (omega arith))
          ];
          below = λ a p h inside. elim (cases_eq a n) [
            | inl e ↦ next.below p (sym (ap (λ (s : Procs). has (members s) p) (ap (procs_at more) e ∙ own)) ∙ inside)
            | inr ne ↦ begun.located.below a p (omega arith) (sym (ap (λ (s : Procs). has (members s) p) (procs-before alphabet.letters l a (omega arith)))
                ∙ inside)
          ];
        };
      }

-- the index with one letter more
pub index-more : (ls : List NamedLetter) (l : NamedLetter) (first next : List ℕ) (key : ℕ) → AreChains (key_at ls) (length ls) first next →
    length ls < most_letters → key ≡ key_of l.name → key < keys →
    AreChains (key_at (ls ++ l ∷ [])) (length (ls ++ l ∷ [])) (slice_set first key (length ls + 1)) (slice_set next (length ls) (slice_index first key))
index-more ls l first next key chains room same small =
    let n : ℕ = length ls in
    let more : List NamedLetter = ls ++ l ∷ [] in
    let size : length more ≡ n + 1 = length-append ls (l ∷ []) in
    let kept = chains-same (key_at ls) (key_at more) n first next (λ i h. sym (ap key_of (name-before ls l i h))) chains in
    let own : key_at more n ≡ key = ap key_of (name-last ls l) ∙ sym same in
    let grown = chains-more (key_at more) n first next kept room (omega arith) in
    let P : ℕ → Type 0 = λ k. AreChains (key_at more) (n + 1) (slice_set first k (n + 1)) (slice_set next n (slice_index first k)) in
    subst (λ m. AreChains (key_at more) m (slice_set first key (n + 1)) (slice_set next n (slice_index first key))) (sym size) (subst P own grown)

-- the processes of a row that can be added
pub row-below : (alphabet : DistributedAlphabet) (row : LetterRow) → IsNextRow alphabet row → (p : ℕ) → has row.procs.items p ≡ true → p < alphabet.processes
row-below alphabet row right p h = below_of_none alphabet.processes row.procs.items right.there p h

row-has : (alphabet : DistributedAlphabet) (row : LetterRow) → IsNextRow alphabet row → (p : ℕ) →
    has (members (set_of row.procs.items)) p ≡ has row.procs.items p
row-has alphabet row right p = has-set_of row.procs.items p (λ q h. let low = row-below alphabet row right q h in let few = right.few in omega arith)

pub set-below : (alphabet : DistributedAlphabet) (row : LetterRow) → IsNextRow alphabet row → (p : ℕ) → IsTrue (has (members (set_of row.procs.items)) p) →
    p < alphabet.processes
set-below alphabet row right p h = row-below alphabet row right p (sym (row-has alphabet row right p) ∙ h)

pub set-some : (alphabet : DistributedAlphabet) (row : LetterRow) → IsNextRow alphabet row → members (set_of row.procs.items) ≢ []
set-some alphabet row right none =
    let p = first_process row.procs.items right.some in
    let e : has [] p.0 ≡ true = sym (ap (λ ps. has ps p.0) none) ∙ row-has alphabet row right p.0 ∙ p.1 in cc

-- names of rows are names of their letters
pub taken-map : (rows : List LetterRow) (name : List ℕ) →
    is_taken (map letter_of_row rows) name ≡ list_any (λ (row : LetterRow). bytes_eq row.name.items name) rows
taken-map [] name = refl
taken-map (row ∷ rows) name = ap (λ b. bytes_eq row.name.items name || b) (taken-map rows name)

next-row : (n : ℕ) (before : List LetterRow) (row : LetterRow) → n ≤ most_processes → IsRightRow n before row → IsNextRow (alphabet_of_rows n before) row
next-row n before row few right =
    record { few = few; named = right.named; fresh = taken-map before row.name.items ∙ right.fresh; some = right.some; there = right.there }

right-rows : (n : ℕ) (before rows : List LetterRow) → letters_fault n before rows ≡ None → (a : ℕ) (d : LetterRow) → a < length rows →
    IsRightRow n (before ++ take a rows) (get_or rows a d)
right-rows n before [] none a d h = absurd (omega arith)
right-rows n before (row ∷ rows) none zero d h =
    let parts = none_of_or (letter_fault n before row) (letters_fault n (before ++ row ∷ []) rows) none in
    subst (λ rs. IsRightRow n rs row) (sym (append-nil before)) (right_row n before row parts.0)
right-rows n before (row ∷ rows) none (suc a) d h =
    let parts = none_of_or (letter_fault n before row) (letters_fault n (before ++ row ∷ []) rows) none in
    subst (λ rs. IsRightRow n rs (get_or rows a d)) (append_assoc before (row ∷ []) (take a rows))
    (right-rows n (before ++ row ∷ []) rows parts.1 a d (omega arith))

-- where there is no fault, each row can be added to the letters of the rows before it
pub row-fits : (n : ℕ) (rows : List LetterRow) → alphabet_fault n rows ≡ None → (a : ℕ) (d : LetterRow) → a < length rows →
    IsNextRow (alphabet_of_rows n (take a rows)) (get_or rows a d)
row-fits n rows none a d h =
    let right = right_alphabet n rows none in
    next-row n (take a rows) (get_or rows a d) right.few_processes (right-rows n [] rows right.rows_right a d h)

-- the fault of a name, by its place
pub name-bad : (letters : List NamedLetter) (name : List ℕ) → is_name name ≡ false → name_fault letters name ≡ Some Bad
name-bad letters name h = rw h refl

pub name-repeated : (letters : List NamedLetter) (name : List ℕ) (i : ℕ) → is_name name ≡ true → place_of letters name ≡ Some i →
    name_fault letters name ≡ Some Repeated
name-repeated letters name i h e = rw (h, taken-some letters name 0 i e) refl

pub name-right : (letters : List NamedLetter) (name : List ℕ) → is_name name ≡ true → place_of letters name ≡ None → name_fault letters name ≡ None
name-right letters name h e = rw (h, taken-none letters name 0 e) refl

-- the index of the names of one row more
pub index-rows : (rows : List LetterRow) (a : ℕ) (d : LetterRow) (first next : List ℕ) (key : ℕ) → a < length rows → a < most_letters →
    AreChains (key_at (map letter_of_row (take a rows))) (length (map letter_of_row (take a rows))) first next →
    key ≡ key_of (get_or rows a d).name.items → key < keys →
    AreChains (key_at (map letter_of_row (take (a + 1) rows))) (length (map letter_of_row (take (a + 1) rows))) (slice_set first key (a + 1))
    (slice_set next a (slice_index first key))
index-rows rows a d first next key here room chains same small =
    let before : List NamedLetter = map letter_of_row (take a rows) in
    let row : LetterRow = get_or rows a d in
    let long : length before ≡ a = length-map (take a rows) letter_of_row ∙ length-take-le a rows (omega arith) in
    let more : map letter_of_row (take (a + 1) rows) ≡ before ++ letter_of_row row ∷ [] =
    ap (map letter_of_row) (take_more rows a d here) ∙ map-append letter_of_row (take a rows) (row ∷ []) in
    let grown = index-more before (letter_of_row row) first next key chains (omega arith) same small in
    let P : List NamedLetter → ℕ → Type 0 =
    λ ls n. AreChains (key_at ls) (length ls) (slice_set first key (n + 1)) (slice_set next n (slice_index first key)) in
    subst (λ ls. P ls a) (sym more) (subst (P (before ++ letter_of_row row ∷ [])) long grown)

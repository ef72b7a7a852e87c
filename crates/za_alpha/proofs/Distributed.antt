-- Rows without a fault make a distributed alphabet.
use Rattle.std.proofs.Common.{◌≡◌, ◌≢◌, ℕ, zero, suc, ◌^◌, ◌<◌, ◌≤◌, Bool, true, false, ◌||◌, ◌==◌, eqb, eqb-true, eq-eqb, List, [], ◌∷◌, ◌++◌, length, map}
use Rattle.std.proofs.Common.{None, refl, sym, ap, subst, ◌∙◌, arith, inl, inr, ◌⊎◌}
use Rattle.std.specs.Prelude.{nat_le, nat_lt, fold, bit_or}
use Rattle.std.specs.List.{list_any}
use Rattle.std.specs.Str.{bytes_eq}
use Rattle.std.proofs.lemmas.Bool.{cases_Bool, or_left, or_right, or_cases, leb-false}
use Rattle.std.proofs.lemmas.Bool.Decides.{nat_tests}
use Rattle.std.proofs.lemmas.List.{length-map}
use Rattle.std.proofs.lemmas.List.Folds.{list_any-append}
use Rattle.std.proofs.lemmas.Nat.{one_shl, or_lt, pow_below}
use Rattle.std.proofs.lemmas.Slice.Eq.{bytes_eq-Decides}
use Rattle.za_alpha.specs.declared.procs.Procs.{Procs}
use Rattle.za_alpha.specs.declared.alphabet.LetterRow.{LetterRow}
use Rattle.za_alpha.specs.Limits.{most_processes}
use Rattle.za_alpha.specs.Words.{has}
use Rattle.za_names.specs.Names.{is_name}
use Rattle.za_alpha.specs.Procs.{members, no_process, with_process}
use Rattle.za_alpha.specs.Rows.{letter_fault, letters_fault, alphabet_fault, set_of, letter_of_row, alphabet_of_rows}
use Rattle.za_alpha.specs.Alphabet.{IsDistributed, procs_at, name_at}
use Rattle.za_alpha.proofs.Members.{has-with, members-zero}
use Rattle.za_alpha.proofs.RowLemmas.{none_of_or, IsRightRow, right_row, right_alphabet}

-- a process is in the set after one joined exactly if it is that one or was in it
pub has-with_process : (s : Procs) (p q : ℕ) → p < 16 → has (members (with_process s p)) q ≡ (eqb q p || has (members s) q)
has-with_process s p q h =
    let at : ℕ → Procs = λ n. record { 0 = bit_or s.0 n } in
    ap (λ (t : Procs). has (members t) q) (sym (ap at (one_shl p 16 h))) ∙ has-with s.0 p q h

eqb-flip : (a b : ℕ) → eqb a b ≡ eqb b a
eqb-flip a b = grind (arith, nat_tests)

or-middle : (a b c : Bool) → (a || (b || c)) ≡ ((b || a) || c)
or-middle true true c = refl
or-middle true false c = refl
or-middle false true c = refl
or-middle false false c = refl

has-fold : (s : Procs) (ps : List ℕ) (q : ℕ) → ((p : ℕ) → has ps p ≡ true → p < 16) → has (members (fold with_process s ps)) q ≡ (has ps q || has (members s) q)
has-fold s [] q small = refl
has-fold s (p ∷ ps) q small =
    let low : p < 16 = small p (or_left (p == p) (has ps p) (eq-eqb p p refl)) in
    has-fold (with_process s p) ps q (λ r h. small r (or_right (p == r) (has ps r) h))
    ∙ ap (λ b. has ps q || b) (has-with_process s p q low ∙ ap (λ b. b || has (members s) q) (eqb-flip q p))
    ∙ or-middle (has ps q) (p == q) (has (members s) q)

-- a set of small processes is a small number
pub set-small : (s : Procs) (ps : List ℕ) → s.0 < 2 ^ 16 → ((p : ℕ) → has ps p ≡ true → p < 16) → (fold with_process s ps).0 < 2 ^ 16
set-small s [] h small = h
set-small s (p ∷ ps) h small =
    let low : p < 16 = small p (or_left (p == p) (has ps p) (eq-eqb p p refl)) in
    set-small (with_process s p) ps (or_lt 16 s.0 (2 ^ p) h (pow_below p 16 low)) (λ r k. small r (or_right (p == r) (has ps r) k))

or-none : (b : Bool) → (b || false) ≡ b
or-none true = refl
or-none false = refl

-- the members of the set of some processes are these
pub has-set_of : (ps : List ℕ) (q : ℕ) → ((p : ℕ) → has ps p ≡ true → p < 16) → has (members (set_of ps)) q ≡ has ps q
has-set_of ps q small = has-fold no_process ps q small ∙ ap (λ (xs : List ℕ). has ps q || has xs q) members-zero ∙ or-none (has ps q)

-- processes of which none is from n on are below n
pub below_of_none : (n : ℕ) (ps : List ℕ) → list_any (λ p. nat_le n p) ps ≡ false → (p : ℕ) → has ps p ≡ true → p < n
below_of_none n [] none p h = absurd (cc)
below_of_none n (q ∷ ps) none p h =
    elim (cases_Bool (nat_le n q)) [
      | inl t ↦ absurd (let e : true ≡ false = sym (or_left (nat_le n q) (list_any (λ r. nat_le n r) ps) t) ∙ none in cc)
      | inr f ↦
          elim (or_cases (q == p) (has ps p) h) [
            | inl e ↦ let same : q ≡ p = eqb-true q p e in let low : q < n = leb-false n q f in omega arith
            | inr r ↦ below_of_none n ps (let e : list_any (λ s. nat_le n s) ps ≡ false = rest_of_none (nat_le n q) (list_any (λ s. nat_le n s) ps) none in e) p
                r
          ]
    ]
  where
    rest_of_none : (a b : Bool) → (a || b) ≡ false → b ≡ false
    rest_of_none true b h = absurd (cc)
    rest_of_none false b h = h

-- the row of the letter at a place
record RowAt (n : ℕ) (rows : List LetterRow) (a : ℕ) : Type 0 where
  pub row : LetterRow
  pub before : List LetterRow
  pub right : IsRightRow n before row
  pub name : name_at (map letter_of_row rows) a ≡ row.name.items
  pub loc : procs_at (map letter_of_row rows) a ≡ set_of row.procs.items

row_at : (n : ℕ) (before rows : List LetterRow) → letters_fault n before rows ≡ None → (a : ℕ) → a < length rows → RowAt n rows a
row_at n before [] none a h = absurd (omega arith)
row_at n before (row ∷ rows) none zero h =
    let parts = none_of_or (letter_fault n before row) (letters_fault n (before ++ row ∷ []) rows) none in
    record { row = row; before = before; right = right_row n before row parts.0; name = refl; loc = refl }
row_at n before (row ∷ rows) none (suc a) h =
    let parts = none_of_or (letter_fault n before row) (letters_fault n (before ++ row ∷ []) rows) none in
    let r = row_at n (before ++ row ∷ []) rows parts.1 a (omega arith) in
    record { row = r.row; before = r.before; right = r.right; name = r.name; loc = r.loc }

-- whether one of the rows has the name
abbrev named_in : List LetterRow → List ℕ → Bool
named_in rows name = list_any (λ (row : LetterRow). bytes_eq row.name.items name) rows

none_left : (a b : Bool) → (a || b) ≡ false → a ≡ false
none_left true b h = absurd (cc)
none_left false b h = refl

none_right : (a b : Bool) → (a || b) ≡ false → b ≡ false
none_right true b h = absurd (cc)
none_right false b h = h

-- no row before has the name of a later one
fresh_later : (n : ℕ) (before rows : List LetterRow) → letters_fault n before rows ≡ None → (a : ℕ) → a < length rows →
    named_in before (name_at (map letter_of_row rows) a) ≡ false
fresh_later n before [] none a h = absurd (omega arith)
fresh_later n before (row ∷ rows) none zero h =
    let parts = none_of_or (letter_fault n before row) (letters_fault n (before ++ row ∷ []) rows) none in (right_row n before row parts.0).fresh
fresh_later n before (row ∷ rows) none (suc a) h =
    let parts = none_of_or (letter_fault n before row) (letters_fault n (before ++ row ∷ []) rows) none in
    let name = name_at (map letter_of_row rows) a in
    let later : named_in (before ++ row ∷ []) name ≡ false = fresh_later n (before ++ row ∷ []) rows parts.1 a (omega arith) in
    none_left (named_in before name) (named_in (row ∷ []) name) (sym (list_any-append (λ (r : LetterRow). bytes_eq r.name.items name) before (row ∷ []))
    ∙ later)

-- two letters have two names
apart_below : (n : ℕ) (before rows : List LetterRow) → letters_fault n before rows ≡ None → (a b : ℕ) → a < b → b < length rows →
    name_at (map letter_of_row rows) a ≢ name_at (map letter_of_row rows) b
apart_below n before [] none a b l h e = absurd (omega arith)
apart_below n before (row ∷ rows) none zero zero l h e = absurd (omega arith)
apart_below n before (row ∷ rows) none zero (suc b) l h e =
    let parts = none_of_or (letter_fault n before row) (letters_fault n (before ++ row ∷ []) rows) none in
    let name = name_at (map letter_of_row rows) b in
    let later : named_in (before ++ row ∷ []) name ≡ false = fresh_later n (before ++ row ∷ []) rows parts.1 b (omega arith) in
    let own : named_in (row ∷ []) name ≡ false =
    none_right (named_in before name) (named_in (row ∷ []) name) (sym (list_any-append (λ (r : LetterRow). bytes_eq r.name.items name) before (row ∷ []))
    ∙ later) in
    let other : bytes_eq row.name.items name ≡ false = none_left (bytes_eq row.name.items name) false own in
    let same : bytes_eq row.name.items name ≡ true = (bytes_eq-Decides row.name.items name).1 e in cc
apart_below n before (row ∷ rows) none (suc a) zero l h e = absurd (omega arith)
apart_below n before (row ∷ rows) none (suc a) (suc b) l h e =
    let parts = none_of_or (letter_fault n before row) (letters_fault n (before ++ row ∷ []) rows) none in
    apart_below n (before ++ row ∷ []) rows parts.1 a b (omega arith) (omega arith) e

pub first_process : (ps : List ℕ) → eqb (length ps) 0 ≡ false → (p : ℕ) × (has ps p ≡ true)
first_process [] h = absurd (cc)
first_process (p ∷ ps) h = (p, or_left (p == p) (has ps p) (eq-eqb p p refl))

-- where there is no fault, the rows make an alphabet
pub distributed_of_rows : (n : ℕ) (rows : List LetterRow) → alphabet_fault n rows ≡ None → IsDistributed (alphabet_of_rows n rows)
distributed_of_rows n rows none =
    let right = right_alphabet n rows none in
    let size : length (map letter_of_row rows) ≡ length rows = length-map rows letter_of_row in
    let small : (a : ℕ) (r : RowAt n rows a) (p : ℕ) → has r.row.procs.items p ≡ true → p < n =
    λ a r p h. below_of_none n r.row.procs.items r.right.there p h in
    let few : n ≤ most_processes = right.few_processes in
    let members_at : (a : ℕ) (r : RowAt n rows a) (p : ℕ) → has (members (procs_at (map letter_of_row rows) a)) p ≡ has r.row.procs.items p =
    λ a r p. ap (λ (s : Procs). has (members s) p) r.loc ∙ has-set_of r.row.procs.items p (λ q h. let low : q < n = small a r q h in omega arith) in
    record {
      some_process = let some = right.some_process in omega arith;
      few_processes = right.few_processes;
      some_letter = let some = right.some_letter in omega arith;
      few_letters = let some = right.few_letters in omega arith;
      names = λ a h. let r = row_at n [] rows right.rows_right a (omega arith) in ap is_name r.name ∙ r.right.named;
      apart = λ a b la lb e.
          elim (nat_order a b) [
            | inl same ↦ same
            | inr (inl less) ↦ absurd (apart_below n [] rows right.rows_right a b less (omega arith) e)
            | inr (inr more) ↦ absurd (apart_below n [] rows right.rows_right b a more (omega arith) (sym e))
          ];
      small = λ a h.
          let r = row_at n [] rows right.rows_right a (omega arith) in
          let P : ℕ → Type 0 = λ k. k < 2 ^ 16 in
          subst P (sym (ap (λ (s : Procs). s.0) r.loc))
          (set-small no_process r.row.procs.items (omega arith) (λ q k. let low : q < n = small a r q k in omega arith));
      located =
          record {
            some = λ a h.
                let r = row_at n [] rows right.rows_right a (omega arith) in
                let p = first_process r.row.procs.items r.right.some in
                (p.0, members_at a r p.0 ∙ p.1);
            below = λ a p h inside. let r = row_at n [] rows right.rows_right a (omega arith) in small a r p (sym (members_at a r p) ∙ inside);
          };
    }
  where
    nat_order : (a b : ℕ) → (a ≡ b) ⊎ ((a < b) ⊎ (b < a))
    nat_order a b =
        elim (cases_Bool (eqb a b)) [
          | inl t ↦ inl (eqb-true a b t)
          | inr f ↦
              elim (cases_Bool (nat_lt a b)) [
                | inl t ↦ inr (inl (grind (arith, nat_tests)))
                | inr g ↦ inr (inr (grind (arith, nat_tests)))
              ]
        ]

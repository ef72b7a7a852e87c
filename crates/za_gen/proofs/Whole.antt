-- The generated alphabet is a distributed one, and the rows that list its letters make it.
use Rattle.std.proofs.Common.{◌≡◌, ℕ, zero, suc, ◌<◌, ◌^◌, ◌||◌, ◌==◌, Bool, true, false, not, inl, inr, List, [], ◌∷◌, length, get_or, map}
use Rattle.std.proofs.Common.{None, refl, sym, ap, ◌∙◌, arith, ltb-true, eqb-true}
use Rattle.std.specs.Prelude.{nat_le, nat_lt}
use Rattle.std.specs.List.{list_all, list_any, range_with_len}
use Rattle.std.specs.Str.{bytes_eq}
use Rattle.std.proofs.lemmas.Bool.{or_cases}
use Rattle.std.proofs.lemmas.List.{length-map}
use Rattle.std.proofs.lemmas.Slice.Eq.{bytes_eq-Decides}
use Rattle.za_alpha.specs.declared.alphabet.LetterRow.{LetterRow}
use Rattle.za_alpha.specs.Procs.{members, members_below}
use Rattle.za_alpha.specs.Alphabet.{IsDistributed, loc_of, name_at, procs_at}
use Rattle.za_alpha.specs.Rows.{alphabet_fault, alphabet_of_rows, set_of}
use Rattle.za_alpha.proofs.Distributed.{below_of_none, first_process}
use Rattle.za_alpha.proofs.RoundTrip.{Says, rows_make}
use Rattle.za_names.specs.Names.{is_name}
use Rattle.za_gen.specs.Generated.{ListedLetter, letter_list, named, generated_alphabet}
use Rattle.za_gen.specs.Private.Rows.{listed_by}
use Rattle.za_gen.proofs.Each.{test-each}

abbrev name_of : ℕ → List ℕ
name_of a = name_at generated_alphabet.letters a

all-named : list_all (λ a. is_name (name_of a)) (range_with_len 0 8) ≡ true
all-named = refl

abbrev is_apart : ℕ → ℕ → Bool
is_apart a b = not (bytes_eq (name_of a) (name_of b)) || a == b

all-apart : list_all (λ a. list_all (is_apart a) (range_with_len 0 8)) (range_with_len 0 8) ≡ true
all-apart = refl

all-small : list_all (λ a. nat_lt (procs_at generated_alphabet.letters a).0 (2 ^ 16)) (range_with_len 0 8) ≡ true
all-small = refl

all-some : list_all (λ a. not (length (loc_of generated_alphabet a) == 0)) (range_with_len 0 8) ≡ true
unfolding members_below
all-some = refl

all-below : list_all (λ a. not (list_any (λ p. nat_le 4 p) (loc_of generated_alphabet a))) (range_with_len 0 8) ≡ true
unfolding members_below
all-below = refl

not-true : (b : Bool) → not b ≡ true → b ≡ false
not-true true h = absurd (cc)
not-true false h = refl

apart-at : (a b : ℕ) → a < 8 → b < 8 → name_of a ≡ name_of b → a ≡ b
apart-at a b la lb e =
    let each : is_apart a b ≡ true = test-each (is_apart a) 8 b (test-each (λ c. list_all (is_apart c) (range_with_len 0 8)) 8 a all-apart la) lb in
    elim (or_cases (not (bytes_eq (name_of a) (name_of b))) (a == b) each) [
      | inl f ↦
          let same : bytes_eq (name_of a) (name_of b) ≡ true = (bytes_eq-Decides (name_of a) (name_of b)).1 e in
          let g : true ≡ false = sym same ∙ not-true (bytes_eq (name_of a) (name_of b)) f in absurd (cc)
      | inr t ↦ eqb-true a b t
    ]

pub generated-distributed : IsDistributed generated_alphabet
generated-distributed =
    record {
      some_process = omega arith;
      few_processes = omega arith;
      some_letter = omega arith;
      few_letters = omega arith;
      names = λ a l. test-each (λ b. is_name (name_of b)) 8 a all-named l;
      apart = apart-at;
      small = λ a l. ltb-true (procs_at generated_alphabet.letters a).0 (2 ^ 16)
          (test-each (λ b. nat_lt (procs_at generated_alphabet.letters b).0 (2 ^ 16)) 8 a all-small l);
      located =
          record {
            some = λ a l.
                let loc = loc_of generated_alphabet a in
                first_process loc (not-true (length loc == 0) (test-each (λ b. not (length (loc_of generated_alphabet b) == 0)) 8 a all-some l));
            below = λ a p l inside.
                let loc = loc_of generated_alphabet a in
                below_of_none 4 loc (not-true (list_any (λ q. nat_le 4 q) loc)
                (test-each (λ b. not (list_any (λ q. nat_le 4 q) (loc_of generated_alphabet b))) 8 a all-below l)) p inside;
          };
    }

-- the processes of each letter are listed as they rise
abbrev Rise : List ListedLetter → Type 0
Rise [] = Unit {0}
Rise (letter ∷ letters) = (letter.processes ≡ members (set_of letter.processes)) × Rise letters

list-rises : Rise letter_list
unfolding members_below
list-rises = (refl, (refl, (refl, (refl, (refl, (refl, (refl, (refl, tt))))))))

say-each : (letters : List ListedLetter) → Rise letters → (rows : List LetterRow) → map listed_by rows ≡ letters → (a : ℕ) (d : LetterRow) → a < length rows →
    Says (get_or rows a d) (map named letters) a
say-each letters rise [] e a d l = absurd (omega arith)
say-each [] rise (row ∷ rows) e a d l = absurd (cc)
say-each (letter ∷ letters) rise (row ∷ rows) e zero d l =
    let own : listed_by row ≡ letter = cc in
    record { name = ap (λ (x : ListedLetter). x.name) own; procs = ap (λ (x : ListedLetter). x.processes) own ∙ rise.0 }
say-each (letter ∷ letters) rise (row ∷ rows) e (suc a) d l =
    let later : map listed_by rows ≡ letters = cc in
    let says = say-each letters rise.1 rows later a d (omega arith) in
    record { name = says.name; procs = says.procs }

-- rows that list the letters have no fault, and make the alphabet
pub rows-make : (rows : List LetterRow) → map listed_by rows ≡ letter_list → (alphabet_fault 4 rows ≡ None) × (alphabet_of_rows 4 rows ≡ generated_alphabet)
rows-make rows e =
    rows_make generated_alphabet generated-distributed rows
    (record { size = sym (length-map rows listed_by) ∙ ap (λ (xs : List ListedLetter). length xs) e; each = say-each letter_list list-rises rows e })

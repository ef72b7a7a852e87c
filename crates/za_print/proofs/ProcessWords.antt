-- The words for processes, by the version: read as they are printed.
use Rattle.std.proofs.Common.{◌≡◌, ◌≢◌, ◌∙◌, ap, sym, subst, refl, ℕ, suc, ◌+◌, ◌<◌, ◌≤◌, true, false, inl, inr, List, [], ◌∷◌, ◌++◌, length, map, get_or}
use Rattle.std.proofs.Common.{append_assoc, length-append, arith, Some, None}
use Rattle.std.specs.Prelude.{All, IsTrue, nat_lt, nat_le, decimal}
use Rattle.std.specs.List.{filter_map, position_from, AllByRecursion}
use Rattle.std.specs.Str.{bytes_eq}
use Rattle.std.proofs.lemmas.Bool.{cases_Bool}
use Rattle.std.proofs.lemmas.Bool.Decides.{nat_tests}
use Rattle.std.proofs.lemmas.Slice.Eq.{bytes_eq-Decides}
use Rattle.std.proofs.Math.ListN.{get_or-append}
use Rattle.za_text.specs.Names.{is_name}
use Rattle.za_text.specs.ProcessNames.{name_of, process_named, AreApart, AreNames}
use Rattle.za_text.proofs.NameLemmas.{finds_own, numbered-at}
use Rattle.za_lang.specs.declared.version.Version.{Version}
use Rattle.za_lang.specs.declared.version.Version.TheVariants.{One, Two}
use Rattle.za_lang.specs.Documents.{names_of}
use Rattle.za_lang.specs.Limits.{document_processes}
use Rattle.za_lang.specs.Namings.{Naming, IsNaming, AreNamesOf}
use Rattle.za_lang.specs.Tests.{process_at, process_meant, process_wrong, loc_fault, process_names_fault, some_names_fault, processes_line_fault}
use Rattle.za_print.specs.Printed.{processes_words}
use Rattle.za_print.proofs.Decimals.{numeral_value-decimal, word-decimal}
use Rattle.za_print.proofs.PrintedLines.{CanPrint, name_word}

-- the word of a process means it, and can be printed
pub record IsWordOf (v : Version) (names : List (List ℕ)) (p : ℕ) : Type 0 where
  pub right : process_wrong v names (name_of names p) ≡ None
  pub means : process_meant v names (name_of names p) ≡ Some p
  pub word : CanPrint (name_of names p)

word_by : (v : Version) (names : List (List ℕ)) (p : ℕ) → AreNames names → AreNamesOf v names → p < length names → IsWordOf v names p
word_by One names p h own l =
    let few = h.few in
    let is : name_of names p ≡ decimal p = ap (λ ns. name_of ns p) own ∙ numbered-at (length names) p l in
    let n = numeral_value-decimal p (omega arith) in
    let below : nat_lt p (length names) ≡ true = grind (arith, nat_tests) in
    record { right = rw (is, n, below) refl; means = rw is n; word = subst CanPrint (sym is) (word-decimal p (omega arith)) }
word_by Two names p h own l =
    let found = finds_own names p h.apart l in
    record { right = rw found refl; means = found; word = name_word (name_of names p) (own p [] l) }

pub word_of_process : (naming : Naming) (n p : ℕ) → IsNaming naming n → p < n → IsWordOf naming.version naming.names p
word_of_process naming n p h l = let size = h.size in word_by naming.version naming.names p h.names h.own (omega arith)

pub processes_right : (naming : Naming) (n : ℕ) (ps : List ℕ) → IsNaming naming n → AllByRecursion (λ p. p < n) ps →
    loc_fault naming (map (name_of naming.names) ps) ≡ None
processes_right naming n [] whole h = refl
processes_right naming n (p ∷ ps) whole h = let w = word_of_process naming n p whole h.0 in let r = w.right in rw r (processes_right naming n ps whole h.1)

pub processes_said : (naming : Naming) (n : ℕ) (ps : List ℕ) → IsNaming naming n → AllByRecursion (λ p. p < n) ps →
    filter_map (process_at naming) (map (name_of naming.names) ps) ≡ ps
processes_said naming n [] whole h = refl
processes_said naming n (p ∷ ps) whole h = let w = word_of_process naming n p whole h.0 in let m = w.means in
    rw m (ap (λ qs. p ∷ qs) (processes_said naming n ps whole h.1))

pub processes_print : (naming : Naming) (n : ℕ) (ps : List ℕ) → IsNaming naming n → AllByRecursion (λ p. p < n) ps →
    AllByRecursion CanPrint (map (name_of naming.names) ps)
processes_print naming n [] whole h = tt
processes_print naming n (p ∷ ps) whole h = ((word_of_process naming n p whole h.0).word, processes_print naming n ps whole h.1)

-- ---- the processes line

absent : (names : List (List ℕ)) (word : List ℕ) (k : ℕ) → ((q : ℕ) → q < length names → name_of names q ≢ word) →
    position_from (λ name. bytes_eq name word) k names ≡ None
absent [] word k h = refl
absent (name ∷ names) word k h =
    elim (cases_Bool (bytes_eq name word)) [
      | inl t ↦ absurd (h 0 (omega arith) ((bytes_eq-Decides name word).0 t))
      | inr f ↦ rw f (absent names word (k + 1) (λ q l. h (suc q) (omega arith)))
    ]

seam : (before rest : List (List ℕ)) (word : List ℕ) → get_or (before ++ word ∷ rest) (length before) [] ≡ word
seam [] rest word = refl
seam (b ∷ before) rest word = seam before rest word

fresh_at : (before rest : List (List ℕ)) (word : List ℕ) → AreApart (before ++ word ∷ rest) → process_named before word ≡ None
fresh_at before rest word apart =
    let long = length-append before (word ∷ rest) in
    absent before word 0 (λ q l e.
    let same = apart q (length before) (omega arith) (omega arith) (get_or-append before (word ∷ rest) [] q l ∙ e ∙ sym (seam before rest word)) in
    omega arith)

names_right : (before rest : List (List ℕ)) → AreApart (before ++ rest) → AllByRecursion (λ name. is_name name ≡ true) rest →
    process_names_fault before rest ≡ None
names_right before [] apart all = refl
names_right before (word ∷ rest) apart all =
    let name = all.0 in
    let fresh = fresh_at before rest word apart in
    rw (name, fresh) (names_right (before ++ word ∷ []) rest (subst AreApart (sym (append_assoc before (word ∷ []) rest)) apart) all.1)

all_by_one : (names : List (List ℕ)) → All (λ name. IsTrue (is_name name)) names → AllByRecursion (λ name. is_name name ≡ true) names
all_by_one [] h = tt
all_by_one (name ∷ names) h = (h 0 [] (omega arith), all_by_one names (λ k d l. h (suc k) d (omega arith)))

names_print : (names : List (List ℕ)) → AllByRecursion (λ name. is_name name ≡ true) names → AllByRecursion CanPrint names
names_print [] h = tt
names_print (name ∷ names) h = (name_word name h.0, names_print names h.1)

-- the words of a processes line are right, and say the names
pub record AreProcessWords (v : Version) (names : List (List ℕ)) : Type 0 where
  pub right : processes_line_fault v (processes_words v names) ≡ None
  pub say : names_of v (processes_words v names) ≡ names
  pub print : AllByRecursion CanPrint (processes_words v names)

some_names : (names : List (List ℕ)) → 0 < length names → length names ≤ document_processes Two → process_names_fault [] names ≡ None →
    some_names_fault names ≡ None
some_names [] some few h = absurd (omega arith)
some_names (name ∷ names) some few h =
    let no : nat_lt (document_processes Two) (length (name ∷ names)) ≡ false = grind (arith, nat_tests) in
    rw no h

words_by : (v : Version) (names : List (List ℕ)) → AreNames names → AreNamesOf v names → 0 < length names → length names ≤ document_processes v →
    AreProcessWords v names
words_by One names h own some few =
    let n = numeral_value-decimal (length names) (omega arith) in
    let low : nat_le 1 (length names) ≡ true = grind (arith, nat_tests) in
    let high : nat_le (length names) (document_processes One) ≡ true = grind (arith, nat_tests) in
    record {
      right = rw (n, low, high) refl;
      say = rw n (sym own);
      print = (word-decimal (length names) (omega arith), tt);
    }
words_by Two names h own some few =
    let all = all_by_one names own in
    record {
      right = some_names names some few (names_right [] names h.apart all);
      say = refl;
      print = names_print names all;
    }

pub process_words : (naming : Naming) (n : ℕ) → IsNaming naming n → 0 < n → n ≤ document_processes naming.version → AreProcessWords naming.version naming.names
process_words naming n h some few = let size = h.size in words_by naming.version naming.names h.names h.own (omega arith) (omega arith)

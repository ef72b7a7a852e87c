-- What the words of a processes line say where they pass their tests, and the process that a word means.
use Rattle.std.proofs.Common.{◌≡◌, ap, sym, subst, refl, ℕ, ◌<◌, ◌≤◌, Bool, true, false, not, ◌&&◌, cond, nat_le, List, [], ◌∷◌, ◌++◌, length, append_assoc}
use Rattle.std.proofs.Common.{arith, Option, Some, None}
use Rattle.std.specs.Prelude.{All, IsTrue, nat_lt, is_some, unwrap_or}
use Rattle.std.proofs.lemmas.Bool.Decides.{nat_tests}
use Rattle.std.proofs.lemmas.List.{append-nil}
use Rattle.std.proofs.lemmas.List.Elements.{All-nil, All-cons, All-append}
use Rattle.za_text.specs.Names.{is_name}
use Rattle.za_text.specs.Numbers.{numeral_value}
use Rattle.za_text.specs.ProcessNames.{process_named, numbered, AreApart}
use Rattle.za_text.specs.declared.kind.Kind.{Kind}
use Rattle.za_text.proofs.NameLemmas.{named_within, apart-more, length-numbered, numbered-names}
use Rattle.za_alpha.specs.Limits.{most_processes, most_letters}
use Rattle.za_alpha.proofs.RowLemmas.{none_of_cond, none_of_or, not_false}
use Rattle.za_lang.specs.declared.version.Version.{Version}
use Rattle.za_lang.specs.declared.version.Version.TheVariants.{One, Two}
use Rattle.za_lang.specs.Documents.{names_of}
use Rattle.za_lang.specs.Limits.{document_processes, document_letters, document_states}
use Rattle.za_lang.specs.Namings.{Naming, IsNaming}
use Rattle.za_lang.specs.Tests.{processes_fault, process_count_fault, process_name_fault, process_names_fault, some_names_fault, processes_line_fault}
use Rattle.za_lang.specs.Tests.{process_number_fault, process_found_fault, process_meant, process_wrong, process_at, process_fault}

-- the limits of a version are those of all calls, or below
pub processes_limit : (v : Version) → document_processes v ≤ most_processes
processes_limit One = omega arith
processes_limit Two = omega arith

pub letters_limit : (v : Version) → document_letters v ≤ most_letters
letters_limit One = omega arith
letters_limit Two = omega arith

pub states_limit : (v : Version) → document_states v ≤ 128
states_limit One = omega arith
states_limit Two = omega arith

pub true_of_cond : (b : Bool) (kind : Kind) → cond b None (Some kind) ≡ None → b ≡ true
true_of_cond true kind h = refl
true_of_cond false kind h = absurd (let t : true ≡ false = ap is_some h in cc)

pub bounds : (n limit : ℕ) → (nat_le 1 n && nat_le n limit) ≡ true → (1 ≤ n) × (n ≤ limit)
bounds n limit h = (grind (arith, nat_tests), grind (arith, nat_tests))

none_of_some : (o : Option ℕ) → is_some o ≡ false → o ≡ None
none_of_some None h = refl
none_of_some (Some n) h = absurd (cc)

-- a name that may come after these
pub name_right : (names : List (List ℕ)) (word : List ℕ) → process_name_fault names word ≡ None → (is_name word ≡ true) × (process_named names word ≡ None)
name_right names word h =
    let name = none_of_cond (not (is_name word)) _ _ h in
    let fresh = none_of_cond (is_some (process_named names word)) _ _ name.1 in
    (not_false (is_name word) name.0, none_of_some (process_named names word) fresh.0)

abbrev IsName : List ℕ → Type 0
IsName name = IsTrue (is_name name)

-- names that come one after the other are names, and differ
all_names : (before words : List (List ℕ)) → process_names_fault before words ≡ None → AreApart before → All IsName before → AreApart (before ++ words)
    × All IsName (before ++ words)
all_names before [] h apart named = (subst AreApart (sym (append-nil before)) apart, subst (All IsName) (sym (append-nil before)) named)
all_names before (word ∷ words) h apart named =
    let parts = none_of_or (process_name_fault before word) (process_names_fault (before ++ word ∷ []) words) h in
    let name = name_right before word parts.0 in
    let more = all_names (before ++ word ∷ []) words parts.1 (apart-more before word apart name.1)
    (All-append IsName before (word ∷ []) named (All-cons IsName word [] name.0 (All-nil IsName))) in
    let e = append_assoc before (word ∷ []) words in
    (subst AreApart e more.0, subst (All IsName) e more.1)

-- what a processes line says is a naming within the limits
pub record AreSaid (v : Version) (names : List (List ℕ)) : Type 0 where
  pub naming : IsNaming (record { version = v; names = names }) (length names)
  pub some : 1 ≤ length names
  pub few : length names ≤ document_processes v

count_right : (o : Option ℕ) → processes_fault o ≡ None → (n : ℕ) × (o ≡ Some n) × (1 ≤ n) × (n ≤ document_processes One)
count_right None h = absurd (let t : true ≡ false = ap is_some h in cc)
count_right (Some n) h = let b = bounds n (document_processes One) (true_of_cond (nat_le 1 n && nat_le n (document_processes One)) _ h) in (n, refl, b.0, b.1)

-- so many processes by their numbers
pub numbered_naming : (n : ℕ) → n ≤ most_processes → IsNaming (record { version = One; names = numbered n }) n
numbered_naming n few = let size = length-numbered n in record { size = size; names = numbered-names n few; own = ap numbered (sym size) }

numbers_said : (n : ℕ) → 1 ≤ n → n ≤ document_processes One → AreSaid One (numbered n)
numbers_said n some few =
    let size = length-numbered n in
    record {
      naming = subst (IsNaming (record { version = One; names = numbered n })) (sym size) (numbered_naming n (omega arith));
      some = omega arith;
      few = omega arith;
    }

processes_right : (words : List (List ℕ)) → process_count_fault words ≡ None → AreSaid One (names_of One words)
processes_right [] h = absurd (let t : true ≡ false = ap is_some h in cc)
processes_right (word ∷ []) h =
    let r = count_right (numeral_value word) h in
    subst (λ o. AreSaid One (numbered (unwrap_or o 0))) (sym r.1) (numbers_said r.0 r.2 r.3)
processes_right (word ∷ x ∷ words) h = absurd (let t : true ≡ false = ap is_some h in cc)

names_given : (words : List (List ℕ)) → some_names_fault words ≡ None → AreSaid Two words
names_given [] h = absurd (let t : true ≡ false = ap is_some h in cc)
names_given (word ∷ words) h =
    let few = none_of_cond (nat_lt (document_processes Two) (length (word ∷ words))) _ _ h in
    let limit = few.0 in
    let all = all_names [] (word ∷ words) few.1 (λ p q l m e. absurd (omega arith)) (All-nil IsName) in
    let fits : length (word ∷ words) ≤ document_processes Two = grind (arith, nat_tests) in
    record { naming = record { size = refl; names = record { few = fits; apart = all.0 }; own = all.1 }; some = omega arith; few = fits }

pub names_right : (v : Version) (words : List (List ℕ)) → processes_line_fault v words ≡ None → AreSaid v (names_of v words)
names_right One words h = processes_right words h
names_right Two words h = names_given words h

-- a word that passes its tests means a process
number_right : (n : ℕ) (o : Option ℕ) → process_number_fault n o ≡ None → (p : ℕ) × (o ≡ Some p) × (p < n)
number_right n None h = absurd (let t : true ≡ false = ap is_some h in cc)
number_right n (Some p) h = let t = true_of_cond (nat_lt p n) _ h in (p, refl, grind (arith, nat_tests))

found_right : (names : List (List ℕ)) (word : List ℕ) (o : Option ℕ) → process_named names word ≡ o → process_found_fault o ≡ None → (p : ℕ) × (o ≡ Some p)
    × (p < length names)
found_right names word None e h = absurd (let t : true ≡ false = ap is_some h in cc)
found_right names word (Some p) e h = (p, refl, named_within names word p e)

meant_right : (v : Version) (names : List (List ℕ)) (word : List ℕ) → process_wrong v names word ≡ None → (p : ℕ) × (process_meant v names word ≡ Some p)
    × (p < length names)
meant_right One names word h = number_right (length names) (numeral_value word) h
meant_right Two names word h = found_right names word (process_named names word) refl h

pub process_right : (naming : Naming) (word : List ℕ) → process_fault naming word ≡ None → (p : ℕ) × (process_at naming word ≡ Some p)
    × (p < length naming.names)
process_right naming word h = meant_right naming.version naming.names word h

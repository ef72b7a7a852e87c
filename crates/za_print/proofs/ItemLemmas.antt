-- The items of a script: their letters, and that each is read as it is printed.
use Rattle.std.proofs.Common.{◌≡◌, ◌∙◌, ap, sym, refl, ℕ, zero, suc, ◌+◌, ◌<◌, ◌≤◌, ◌^◌, Bool, true, false, cond, inl, inr, List, [], ◌∷◌, ◌++◌, length, map}
use Rattle.std.proofs.Common.{replicate, take, drop, drop-cons, get_or, length-append, arith, add-one, eqb-true, eq-eqb, Option, Some, None}
use Rattle.std.specs.Prelude.{◌==◌, nat_lt, decimal, unwrap_or}
use Rattle.std.specs.List.{flat_map, prefix_len, AllByRecursion}
use Rattle.std.specs.Option.{option_or}
use Rattle.std.proofs.lemmas.Bool.{cases_Bool}
use Rattle.std.proofs.lemmas.Bool.Decides.{nat_tests}
use Rattle.std.proofs.lemmas.List.{length-replicate}
use Rattle.std.proofs.Math.Seq.{take-append_seam}
use Rattle.za_text.specs.Names.{is_name}
use Rattle.za_alpha.specs.Words.{has}
use Rattle.za_alpha.specs.Procs.{members}
use Rattle.za_alpha.specs.Alphabet.{NamedLetter, name_at, procs_at, place_of}
use Rattle.za_script.specs.Limits.{most_script_letters}
use Rattle.za_lang.specs.declared.version.Version.{Version}
use Rattle.za_lang.specs.declared.version.Version.TheVariants.{One, Two}
use Rattle.za_lang.specs.Items.{Item, item_of, item_letters, letters_of_items, positive, repeated, star_at}
use Rattle.za_lang.proofs.PlainItems.{item_is, name_bytes, plain_item, stars_after}
use Rattle.za_lang.specs.Tests.{items_fault, item_fault}
use Rattle.za_print.specs.Printed.{Run, put_run, runs, script_runs, item_word}
use Rattle.za_print.specs.Private.Items.{runs_by, item_len, front_run}
use Rattle.za_print.proofs.Decimals.{numeral_value-decimal}

-- ---- the first item and those after it

abbrev pub run_of_letter : ℕ → ℕ → Run
run_of_letter a count = record { letter = a; count = count }

runs-more : (a : ℕ) (w : List ℕ) → runs (a ∷ w) ≡ run_of_letter a (prefix_len (λ b. b == a) w + 1) ∷ runs (drop (prefix_len (λ b. b == a) w) w)
runs-more a [] = refl
runs-more a (b ∷ w) =
    let k = prefix_len (λ c. c == a) w in
    elim (cases_Bool (b == a)) [
      | inl t ↦
          let same : b ≡ a = eqb-true b a t in
          let rest : List Run = runs (drop k w) in
          let later : runs (b ∷ w) ≡ run_of_letter a (k + 1) ∷ rest = ap (λ c. runs (c ∷ w)) same ∙ runs-more a w in
          let own : (a == a) ≡ true = eq-eqb a a refl in
          let put : put_run a (run_of_letter a (k + 1) ∷ rest) ≡ run_of_letter a (k + 1 + 1) ∷ rest = rw own refl in
          let many : k + 1 + 1 ≡ suc k + 1 = omega arith in
          let one : 1 + k ≡ suc k = omega arith in
          rw (t, one) (ap (put_run a) later ∙ put ∙ ap (λ n. run_of_letter a n ∷ rest) many)
      | inr f ↦
          let later = runs-more b w in
          rw f (ap (put_run a) later ∙ (rw f (ap (λ rs. run_of_letter a 1 ∷ rs) (sym later))))
    ]

-- the first item, and then those of what is left
pub runs_by-front : (repeats : Bool) (a : ℕ) (w : List ℕ) →
    runs_by repeats (a ∷ w) ≡ run_of_letter a (item_len repeats (a ∷ w)) ∷ runs_by repeats (drop (item_len repeats (a ∷ w)) (a ∷ w))
runs_by-front false a w = refl
runs_by-front true a w =
    let k = prefix_len (λ b. b == a) w in
    let own : (a == a) ≡ true = eq-eqb a a refl in
    let one : 1 + k ≡ suc k = omega arith in
    let many : k + 1 ≡ suc k = omega arith in
    rw (own, one) (runs-more a w ∙ ap (λ n. run_of_letter a n ∷ runs (drop k w)) many)

front-some : (repeats : Bool) (a : ℕ) (w : List ℕ) → 1 ≤ item_len repeats (a ∷ w)
front-some false a w = omega arith
front-some true a w = let own : (a == a) ≡ true = eq-eqb a a refl in rw own (omega arith)

-- the same of letters of which there is one
pub runs_by-split : (repeats : Bool) (xs : List ℕ) → 0 < length xs →
    runs_by repeats xs ≡ run_of_letter (get_or xs 0 0) (item_len repeats xs) ∷ runs_by repeats (drop (item_len repeats xs) xs)
runs_by-split repeats [] h = absurd (omega arith)
runs_by-split repeats (a ∷ w) h = runs_by-front repeats a w

pub item-some : (repeats : Bool) (xs : List ℕ) → 0 < length xs → 1 ≤ item_len repeats xs
item-some repeats [] h = absurd (omega arith)
item-some repeats (a ∷ w) h = front-some repeats a w

pub front_is : (xs : List ℕ) → 0 < length xs → front_run xs ≡ prefix_len (λ b. b == get_or xs 0 0) xs
front_is [] h = absurd (omega arith)
front_is (a ∷ w) h = refl

-- one place further
pub run_on : (p : ℕ → Bool) (xs : List ℕ) (i : ℕ) → i < length xs → prefix_len p (drop i xs) ≡ cond (p (get_or xs i 0)) (1 + prefix_len p (drop (i + 1) xs)) 0
run_on p xs i h = ap (prefix_len p) (drop-cons xs i 0 h) ∙ rw (add-one i) refl

-- ---- the letters of items

abbrev pub expand : List Run → List ℕ
expand rs = flat_map (λ (r : Run). replicate r.count r.letter) rs

expand-put : (a : ℕ) (rs : List Run) → expand (put_run a rs) ≡ a ∷ expand rs
expand-put a [] = refl
expand-put a (r ∷ rs) =
    elim (cases_Bool (r.letter == a)) [
      | inl t ↦
          let same : r.letter ≡ a = eqb-true r.letter a t in
          let one : r.count + 1 ≡ suc r.count = add-one r.count in
          rw (t, one) (ap (λ c. a ∷ (replicate r.count c ++ expand rs)) (sym same))
      | inr f ↦ rw f refl
    ]

expand-runs : (w : List ℕ) → expand (runs w) ≡ w
expand-runs [] = refl
expand-runs (a ∷ w) = expand-put a (runs w) ∙ ap (λ xs. a ∷ xs) (expand-runs w)

expand-letters : (w : List ℕ) → expand (map (λ (a : ℕ). run_of_letter a 1) w) ≡ w
expand-letters [] = refl
expand-letters (a ∷ w) = ap (λ xs. a ∷ xs) (expand-letters w)

pub expand-script : (v : Version) (w : List ℕ) → expand (script_runs v w) ≡ w
expand-script One w = expand-letters w
expand-script Two w = expand-runs w

-- ---- what holds of each run

abbrev IsRun : Version → ℕ → Type 0
IsRun One count = count ≡ 1
IsRun Two count = 0 < count

pub record RunFits (v : Version) (P : ℕ → Type 0) (r : Run) : Type 0 where
  pub letter : P r.letter
  pub count : IsRun v r.count

put-fits : (P : ℕ → Type 0) (a : ℕ) (rs : List Run) → P a → AllByRecursion (RunFits Two P) rs → AllByRecursion (RunFits Two P) (put_run a rs)
put-fits P a [] h all = (record { letter = h; count = omega arith }, tt)
put-fits P a (r ∷ rs) h all =
    elim (cases_Bool (r.letter == a)) [
      | inl t ↦ rw t (record { letter = h; count = omega arith }, all.1)
      | inr f ↦ rw f (record { letter = h; count = omega arith }, all)
    ]

pub runs-fit : (v : Version) (P : ℕ → Type 0) (w : List ℕ) → AllByRecursion P w → AllByRecursion (RunFits v P) (script_runs v w)
runs-fit One P [] all = tt
runs-fit One P (a ∷ w) all = (record { letter = all.0; count = refl }, runs-fit One P w all.1)
runs-fit Two P [] all = tt
runs-fit Two P (a ∷ w) all = put-fits P a (runs w) all.0 (runs-fit Two P w all.1)

-- ---- an item is read as it is printed

drop_past : (name : List ℕ) (b : ℕ) (rest : List ℕ) → drop (length name + 1) (name ++ b ∷ rest) ≡ rest
drop_past [] b rest = refl
drop_past (x ∷ name) b rest = let e : suc (length name) + 1 ≡ suc (length name + 1) = omega arith in rw e (drop_past name b rest)

positive_some : (n : ℕ) → 0 < n → positive (Some n) ≡ Some n
positive_some zero h = absurd (omega arith)
positive_some (suc n) h = refl

repeated_item : (name : List ℕ) (count : ℕ) → is_name name ≡ true → 0 < count → count < 2 ^ 32 → repeated (name ++ 42 ∷ decimal count) ≡ item_is name count
repeated_item name count h some few =
    let word = name ++ 42 ∷ decimal count in
    let at : star_at word ≡ length name = stars_after name (42 ∷ decimal count) (name_bytes name h)
    ∙ (let z : length name + 0 ≡ length name = omega arith in z) in
    let long = length-append name (42 ∷ decimal count) in
    let yes : nat_lt (length name) (length word) ≡ true = grind (arith, nat_tests) in
    let front : take (length name) word ≡ name = take-append_seam name (42 ∷ decimal count) in
    let back : drop (length name + 1) word ≡ decimal count = drop_past name 42 (decimal count) in
    let n = numeral_value-decimal count few in
    rw (at, yes, front, back, n) (ap (λ o. let i : Item = record { name = name; count = o } in i) (positive_some count some))

pub item_back : (v : Version) (letters : List NamedLetter) (r : Run) → is_name (name_at letters r.letter) ≡ true → IsRun v r.count → r.count < 2 ^ 32 →
    item_of v (item_word letters r) ≡ item_is (name_at letters r.letter) r.count
item_back One letters r h one few =
    let e : (r.count == 1) ≡ true = eq-eqb r.count 1 one in
    rw e (ap (item_is (name_at letters r.letter)) (sym one))
item_back Two letters r h some few =
    elim (cases_Bool (r.count == 1)) [
      | inl t ↦ rw t (plain_item (name_at letters r.letter) h ∙ ap (item_is (name_at letters r.letter)) (sym (eqb-true r.count 1 t)))
      | inr f ↦ rw f (repeated_item (name_at letters r.letter) r.count h some few)
    ]

-- ---- the items of a script

-- a letter of the script of a process
pub record StepFits (letters : List NamedLetter) (process : ℕ) (a : ℕ) : Type 0 where
  pub letter : a < length letters
  pub own : has (members (procs_at letters a)) process ≡ true

-- each letter is the first of its name
abbrev pub Finds : List NamedLetter → Type 0
Finds letters = (a : ℕ) → a < length letters → place_of letters (name_at letters a) ≡ Some a

abbrev pub AreNamed : List NamedLetter → Type 0
AreNamed letters = (a : ℕ) → a < length letters → is_name (name_at letters a) ≡ true

pub items_right : (v : Version) (letters : List NamedLetter) (process read : ℕ) (rs : List Run) → Finds letters → AreNamed letters →
    AllByRecursion (RunFits v (StepFits letters process)) rs →
    read + length (expand rs) ≤ most_script_letters → items_fault v letters process read (map (item_word letters) rs) ≡ None
items_right v letters process read [] finds named h room = refl
items_right v letters process read (r ∷ rs) finds named h room =
    let long = length-append (replicate r.count r.letter) (expand rs) in
    let size : length (replicate r.count r.letter) ≡ r.count = length-replicate r.count r.letter in
    let item = item_back v letters r (named r.letter h.0.letter.letter) h.0.count (omega arith) in
    let place = finds r.letter h.0.letter.letter in
    let own = h.0.letter.own in
    let fits : nat_lt most_script_letters (read + r.count) ≡ false = grind (arith, nat_tests) in
    let later = items_right v letters process (read + r.count) rs finds named h.1 (omega arith) in
    let words : List (List ℕ) = map (item_word letters) rs in
    let step : Item → Option _ = λ i. option_or (item_fault letters process read i) (items_fault v letters process (read + unwrap_or i.count 0) words) in
    ap step item ∙ (rw (place, own, fits) later)

pub items_said : (v : Version) (letters : List NamedLetter) (process : ℕ) (rs : List Run) → Finds letters → AreNamed letters →
    AllByRecursion (RunFits v (StepFits letters process)) rs →
    length (expand rs) ≤ most_script_letters → letters_of_items v letters (map (item_word letters) rs) ≡ expand rs
items_said v letters process [] finds named h room = refl
items_said v letters process (r ∷ rs) finds named h room =
    let long = length-append (replicate r.count r.letter) (expand rs) in
    let size : length (replicate r.count r.letter) ≡ r.count = length-replicate r.count r.letter in
    let item = item_back v letters r (named r.letter h.0.letter.letter) h.0.count (omega arith) in
    let place = finds r.letter h.0.letter.letter in
    let later = items_said v letters process rs finds named h.1 (omega arith) in
    ap (λ i. item_letters letters i ++ letters_of_items v letters (map (item_word letters) rs)) item
    ∙ (rw place (ap (λ xs. replicate r.count r.letter ++ xs) later))

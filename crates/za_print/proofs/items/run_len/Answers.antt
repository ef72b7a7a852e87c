use Rattle.std.proofs.Common.{◌≡◌, ◌≢◌, ◌∙◌, ◌+◌, ◌<◌, ℕ, List, true, false, cond, ap, sym, length, drop, get_or, refl, arith}
use Rattle.std.specs.Prelude.{◌==◌}
use Rattle.std.specs.List.{prefix_len}
use Rattle.std.proofs.lemmas.Bool.Decides.{nat_tests}
use Rattle.std.proofs.lemmas.List.{get_or-map, length-map}
use Rattle.std.proofs.lemmas.List.Sums.{prefix_len-drop_all}
use Rattle.za_alpha.specs.declared.word.Letter.{Letter}
use Rattle.za_alpha.specs.Letters.{numbers}
use Rattle.za_print.specs.Private.Items.{front_run}
use Rattle.za_print.proofs.ItemLemmas.{front_is, run_on}
use Rattle.za_print.proofs.items.run_len.Goals as goal

number_at : (letters : List Letter) (i : ℕ) → i < length letters → get_or (numbers letters) i 0 ≡ (get_or letters i (record { 0 = 0 })).0
number_at letters i h = get_or-map (λ (a : Letter). a.0) letters i (record { 0 = 0 }) 0 h

size : (letters : List Letter) → length (numbers letters) ≡ length letters
size letters = length-map letters (λ (a : Letter). a.0)

-- the front run ends where a letter differs
ends : (letters : List Letter) (i first : ℕ) → 0 < length letters → i < length letters → first ≡ (get_or letters 0 (record { 0 = 0 })).0 →
    (get_or letters i (record { 0 = 0 })).0 ≢ first →
    i + prefix_len (λ b. b == first) (drop i (numbers letters)) ≡ prefix_len (λ b. b == first) (numbers letters) → i ≡ front_run (numbers letters)
ends letters i first some h is other so_far =
    let xs = numbers letters in
    let long = size letters in
    let at = number_at letters i h in
    let begin : get_or xs 0 0 ≡ first = number_at letters 0 some ∙ sym is in
    let no : (get_or xs i 0 == first) ≡ false = grind (arith, nat_tests) in
    let on = run_on (λ b. b == first) xs i (omega arith) in
    let stop : prefix_len (λ b. b == first) (drop i xs) ≡ 0 = on ∙ ap (λ t. cond t (1 + prefix_len (λ b. b == first) (drop (i + 1) xs)) 0) no in
    let front : front_run xs ≡ prefix_len (λ b. b == first) xs = front_is xs (omega arith) ∙ ap (λ f. prefix_len (λ b. b == f) xs) begin in
    omega arith

-- it goes on where it doesn't
goes : (letters : List Letter) (i first : ℕ) → i < length letters → (get_or letters i (record { 0 = 0 })).0 ≡ first →
    i + prefix_len (λ b. b == first) (drop i (numbers letters)) ≡ prefix_len (λ b. b == first) (numbers letters) →
    i + 1 + prefix_len (λ b. b == first) (drop (i + 1) (numbers letters)) ≡ prefix_len (λ b. b == first) (numbers letters)
goes letters i first h same so_far =
    let xs = numbers letters in
    let long = size letters in
    let at = number_at letters i h in
    let yes : (get_or xs i 0 == first) ≡ true = grind (arith, nat_tests) in
    let on = run_on (λ b. b == first) xs i (omega arith) in
    let more : prefix_len (λ b. b == first) (drop i xs) ≡ 1 + prefix_len (λ b. b == first) (drop (i + 1) xs) = on
    ∙ ap (λ t. cond t (1 + prefix_len (λ b. b == first) (drop (i + 1) xs)) 0) yes in
    omega arith

pub loop-i-preserved : goal.loop-i-preserved
loop-i-preserved c = goes c.args.letters.now c.loop-i.i _ c.loop-i-test.true c.if-a-first.false c.loop-i.invariant

pub returns-then-a-first-clause-value : goal.returns-then-a-first-clause-value
returns-then-a-first-clause-value c = ends c.args.letters.now c.loop-i.i _ c.requires c.loop-i-test.true refl c.if-a-first.true c.loop-i.invariant

pub returns-clause-value : goal.returns-clause-value
returns-clause-value c =
    let letters = c.args.letters.now in
    let xs = numbers letters in
    let first = (get_or letters 0 (record { 0 = 0 })).0 in
    let long = size letters in
    let so_far : c.loop-i.i + prefix_len (λ b. b == first) (drop c.loop-i.i xs) ≡ prefix_len (λ b. b == first) xs = c.loop-i.invariant in
    let none = prefix_len-drop_all (λ b. b == first) xs c.loop-i.i (omega arith) in
    let some = c.requires in
    let front : front_run xs ≡ prefix_len (λ b. b == first) xs = front_is xs (omega arith) ∙ ap (λ f. prefix_len (λ b. b == f) xs) (number_at letters 0 some) in
    omega arith

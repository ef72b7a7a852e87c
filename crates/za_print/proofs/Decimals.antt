-- Numbers that are printed are read as they are.
use Rattle.std.proofs.Common.{◌≡◌, ◌∙◌, ap, ℕ, ◌+◌, ◌/◌, ◌%◌, ◌^◌, ◌<◌, ◌≤◌, zero, suc, true, not, List, [], ◌∷◌, ◌++◌, length, get_or, map, refl, le-leb, lit<}
use Rattle.std.proofs.Common.{arith, inl, inr, Some}
use Rattle.std.specs.Prelude.{◌⊎◌}
use Rattle.std.specs.Prelude.{◌==◌, nat_le, decimal}
use Rattle.std.specs.List.{list_all, filter_map, AllByRecursion}
use Rattle.std.proofs.lemmas.Bool.{and_parts}
use Rattle.std.proofs.lemmas.Bool.Decides.{nat_tests}
use Rattle.std.proofs.lemmas.List.Sums.{fold-append}
use Rattle.std.proofs.lemmas.Fmt.{decimal_by_steps, length-decimal-le, decimal_nonempty, first_decimal, decimal_digit}
use Rattle.za_text.specs.Numbers.{is_digit, is_numeral, value_of, numeral_value}
use Rattle.za_print.proofs.PrintedLines.{CanPrint, is_inner}

value_step : (n : ℕ) (ds : List ℕ) → 10 ≤ n → value_of ds ≡ n / 10 → value_of (ds ++ ((48 + n % 10) ∷ [])) ≡ n
value_step n ds h e = fold-append _ 0 ds ((48 + n % 10) ∷ []) ∙ (rw e (omega arith))

pub value-decimal : (n : ℕ) → n < 2 ^ 64 → value_of (decimal n) ≡ n
value-decimal = decimal_by_steps (λ n ds. value_of ds ≡ n) (λ n h. omega arith) value_step

digit : (n : ℕ) → n < 10 → is_digit (48 + n) ≡ true
digit n h = grind (arith, nat_tests)

all-snoc : (ds : List ℕ) (d : ℕ) → list_all is_digit ds ≡ true → is_digit d ≡ true → list_all is_digit (ds ++ d ∷ []) ≡ true
all-snoc [] d h e = rw e
all-snoc (x ∷ ds) d h e =
    let parts = and_parts (is_digit x) (list_all is_digit ds) h in
    rw parts.0 (all-snoc ds d parts.1 e)

digits_one : (n : ℕ) → n < 10 → list_all is_digit ((48 + n) ∷ []) ≡ true
digits_one n h = let e = digit n h in rw e

digits_more : (n : ℕ) (ds : List ℕ) → 10 ≤ n → list_all is_digit ds ≡ true → list_all is_digit (ds ++ ((48 + n % 10) ∷ [])) ≡ true
digits_more n ds h e = all-snoc ds (48 + n % 10) e (digit (n % 10) (omega arith))

pub digits-decimal : (n : ℕ) → n < 2 ^ 64 → list_all is_digit (decimal n) ≡ true
digits-decimal = decimal_by_steps (λ n ds. list_all is_digit ds ≡ true) digits_one digits_more

not_zero : (b : ℕ) → 48 < b → not (b == 48) ≡ true
not_zero b h = grind (arith, nat_tests)

numeral : (ds : List ℕ) → 0 < length ds → length ds ≤ 10 → list_all is_digit ds ≡ true → (48 < get_or ds 0 0) ⊎ (length ds ≡ 1) → is_numeral ds ≡ true
numeral [] some few all first = absurd (omega arith)
numeral (b ∷ []) some few all first = (and_parts (is_digit b) true all).0
numeral (b ∷ c ∷ bs) some few all (inl h) = let e = not_zero b h in let f : nat_le (length (b ∷ c ∷ bs)) 10 ≡ true = le-leb _ _ few in rw e (rw f all)
numeral (b ∷ c ∷ bs) some few all (inr h) = absurd (omega arith)

numeral-decimal : (n : ℕ) → n < 2 ^ 32 → is_numeral (decimal n) ≡ true
numeral-decimal zero h = let e : decimal 0 ≡ 48 ∷ [] = decimal_digit 0 (lit< tt) in rw e
numeral-decimal (suc n) h =
    let fits : suc n < 2 ^ 64 = omega arith in
    numeral (decimal (suc n)) (decimal_nonempty (suc n) fits) (length-decimal-le 10 (suc n) (lit< tt) (omega arith) fits) (digits-decimal (suc n) fits)
    (inl (first_decimal (suc n) (omega arith) fits))

pub numeral_value-decimal : (n : ℕ) → n < 2 ^ 32 → numeral_value (decimal n) ≡ Some n
numeral_value-decimal n h =
    let fits : n < 2 ^ 64 = omega arith in
    let most : n ≤ 4294967295 = omega arith in
    let v = value-decimal n fits in
    let m = numeral-decimal n h in
    let f : nat_le n 4294967295 ≡ true = grind (arith, nat_tests) in
    rw (m, v, f)

pub numbers-decimal : (ns : List ℕ) → AllByRecursion (λ n. n < 2 ^ 32) ns → filter_map numeral_value (map decimal ns) ≡ ns
numbers-decimal [] h = refl
numbers-decimal (n ∷ ns) h = let e = numeral_value-decimal n h.0 in rw e (ap (λ ms. n ∷ ms) (numbers-decimal ns h.1))

digit_inner : (b : ℕ) → is_digit b ≡ true → is_inner b ≡ true
digit_inner b h = grind (arith, nat_tests)

digits_inner : (ds : List ℕ) → list_all is_digit ds ≡ true → list_all is_inner ds ≡ true
digits_inner [] h = refl
digits_inner (d ∷ ds) h =
    let parts = and_parts (is_digit d) (list_all is_digit ds) h in
    let e = digit_inner d parts.0 in
    rw e (digits_inner ds parts.1)

pub word-decimal : (n : ℕ) → n < 2 ^ 32 → CanPrint (decimal n)
word-decimal n h =
    let fits : n < 2 ^ 64 = omega arith in
    record { some = decimal_nonempty n fits; inner = digits_inner (decimal n) (digits-decimal n fits) }

-- Tests of all numbers of a range, and the row and column of a cell.
use Rattle.std.proofs.Common.{◌≡◌, ℕ, zero, suc, ◌+◌, ◌*◌, ◌/◌, ◌%◌, ◌<◌, ◌≤◌, Bool, true, refl, ap, ◌∙◌, arith, inl, inr, eqb, eqb-true}
use Rattle.std.specs.Cmp.Derive.{both_true}
use Rattle.std.specs.List.{list_all, range_with_len}
use Rattle.std.proofs.lemmas.Bool.{cases_Bool, and_parts}
use Rattle.std.proofs.lemmas.Bool.Decides.{nat_tests}
use Rattle.std.proofs.Math.Nat.{div-lt_iff_lt-mul, mod-lt}

range_elim_from : (p : ℕ → Bool) (n a i : ℕ) → list_all p (range_with_len a n) ≡ true → a ≤ i → i < a + n → p i ≡ true
range_elim_from p zero a i all low high = absurd (omega arith)
range_elim_from p (suc n) a i all low high =
    let parts = and_parts (p a) (list_all p (range_with_len (a + 1) n)) all in
    elim (cases_Bool (eqb i a)) [
      | inl t ↦ ap p (eqb-true i a t) ∙ parts.0
      | inr f ↦ let above : a + 1 ≤ i = grind (arith, nat_tests) in range_elim_from p n (a + 1) i parts.1 above (omega arith)
    ]

range_intro_from : (p : ℕ → Bool) (n a : ℕ) → ((i : ℕ) → a ≤ i → i < a + n → p i ≡ true) → list_all p (range_with_len a n) ≡ true
range_intro_from p zero a h = refl
range_intro_from p (suc n) a h = both_true (h a (omega arith) (omega arith)) (range_intro_from p n (a + 1) (λ i low high. h i (omega arith) (omega arith)))

-- the test passes at each number below n exactly if it passes at all of them
pub range_elim : (p : ℕ → Bool) (n i : ℕ) → list_all p (range_with_len 0 n) ≡ true → i < n → p i ≡ true
range_elim p n i all h = range_elim_from p n 0 i all (omega arith) (omega arith)

pub range_intro : (p : ℕ → Bool) (n : ℕ) → ((i : ℕ) → i < n → p i ≡ true) → list_all p (range_with_len 0 n) ≡ true
range_intro p n h = range_intro_from p n 0 (λ i low high. h i (omega arith))

-- the quotient of a cell's number is one of the rows, and the remainder one of the columns
pub row_of_cell : (i rows columns : ℕ) → i < rows * columns → (i / columns < rows) × (i % columns < columns)
row_of_cell i rows zero h = absurd (omega arith)
row_of_cell i rows (suc n) h = let some : 0 < suc n = omega arith in ((div-lt_iff_lt-mul {k = suc n} {x = i} {y = rows} some).1 h, mod-lt i some)

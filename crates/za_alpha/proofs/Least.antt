-- The least number that passes a test.
use Rattle.std.proofs.Common.{◌≡◌, ℕ, zero, suc, ◌<◌, ◌≤◌, Bool, true, false, cond, inl, inr, refl, sym, ap, ◌∙◌, arith}
use Rattle.std.proofs.lemmas.Bool.{cond_both, cases_Bool, cond-true, cond-false, cases_lt}
use Rattle.za_alpha.specs.Search.{least}

-- where the least number is found, it passes the test
pub least-true : (test : ℕ → Bool) (n : ℕ) → least test n < n → test (least test n) ≡ true
least-true test zero = λ h. absurd (omega arith)
least-true test (suc n) =
    cond_both (test 0) 0 (suc (least (λ k. test (suc k)) n)) (λ v. v < suc n → test v ≡ true)
    (λ t h. t) (λ t h. least-true (λ k. test (suc k)) n (omega arith))

-- and none below it does
pub least-below : (test : ℕ → Bool) (n k : ℕ) → k < least test n → test k ≡ false
least-below test zero k h = absurd (omega arith)
least-below test (suc n) zero h =
    elim (cases_Bool (test 0)) [
      | inl t ↦ absurd (let z = cond-true (test 0) 0 (suc (least (λ k. test (suc k)) n)) t in omega arith)
      | inr t ↦ t
    ]
least-below test (suc n) (suc k) h =
    elim (cases_Bool (test 0)) [
      | inl t ↦ absurd (let z = cond-true (test 0) 0 (suc (least (λ k. test (suc k)) n)) t in omega arith)
      | inr t ↦ least-below (λ k. test (suc k)) n k (let z = cond-false (test 0) 0 (suc (least (λ k. test (suc k)) n)) t in omega arith)
    ]

-- the least number is at most each that passes
pub least-le : (test : ℕ → Bool) (n m : ℕ) → test m ≡ true → least test n ≤ m
least-le test n m t =
    elim (cases_lt m (least test n)) [
      | inl lt ↦ absurd (let f = least-below test n m lt in let e : true ≡ false = sym t ∙ f in cc)
      | inr ge ↦ ge
    ]

-- the first number that passes is the least
pub least-is : (test : ℕ → Bool) (n m : ℕ) → m < n → ((k : ℕ) → k < m → test k ≡ false) → test m ≡ true → m ≡ least test n
least-is test n m l h t =
    let le = least-le test n m t in
    elim (cases_lt (least test n) m) [
      | inl lt ↦ absurd (let a = h (least test n) lt in let b = least-true test n (omega arith) in cc)
      | inr ge ↦ omega arith
    ]

-- where none passes there is none
pub least-none : (test : ℕ → Bool) (n : ℕ) → ((k : ℕ) → k < n → test k ≡ false) → n ≡ least test n
least-none test zero h = refl
least-none test (suc n) h =
    let e = cond-false (test 0) 0 (suc (least (λ k. test (suc k)) n)) (h 0 (omega arith)) in
    let k = least-none (λ k. test (suc k)) n (λ k l. h (suc k) (omega arith)) in omega arith

-- it is below the bound, or the bound where there is none
pub least-within : (test : ℕ → Bool) (n : ℕ) → least test n ≤ n
least-within test zero = omega arith
least-within test (suc n) =
    let k = least-within (λ k. test (suc k)) n in
    elim (cases_Bool (test 0)) [
      | inl t ↦ let e = cond-true (test 0) 0 (suc (least (λ k. test (suc k)) n)) t in omega arith
      | inr t ↦ let e = cond-false (test 0) 0 (suc (least (λ k. test (suc k)) n)) t in omega arith
    ]

-- tests that agree below the bound have the same
pub least-agree : (s t : ℕ → Bool) (n : ℕ) → ((k : ℕ) → k < n → s k ≡ t k) → least s n ≡ least t n
least-agree s t zero h = refl
least-agree s t (suc n) h =
    ap (λ b. cond b 0 (suc (least (λ k. s (suc k)) n))) (h 0 (omega arith))
    ∙ ap (λ m. cond (t 0) 0 (suc m)) (least-agree (λ k. s (suc k)) (λ k. t (suc k)) n (λ k l. h (suc k) (omega arith)))

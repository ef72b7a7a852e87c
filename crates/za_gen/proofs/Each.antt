-- What a test says of each number below a bound.
use Rattle.std.proofs.Common.{◌≡◌, ℕ, zero, suc, ◌+◌, ◌<◌, Bool, true, subst, arith, zero-add}
use Rattle.std.specs.List.{list_all, range_with_len}
use Rattle.std.proofs.lemmas.Bool.{and_parts}

test-from : (test : ℕ → Bool) (n k : ℕ) → ((a : ℕ) → list_all test (range_with_len a n) ≡ true → k < n → test (a + k) ≡ true)
test-from test zero k a h l = absurd (omega arith)
test-from test (suc n) zero a h l =
    let b = and_parts (test a) (list_all test (range_with_len (a + 1) n)) h in
    let e : a ≡ a + 0 = omega arith in subst (λ x. test x ≡ true) e b.0
test-from test (suc n) (suc k) a h l =
    let b = and_parts (test a) (list_all test (range_with_len (a + 1) n)) h in
    let e : (a + 1) + k ≡ a + suc k = omega arith in
    subst (λ x. test x ≡ true) e (test-from test n k (a + 1) b.1 (omega arith))

-- a test of all numbers below n is one of each
pub test-each : (test : ℕ → Bool) (n k : ℕ) → list_all test (range_with_len 0 n) ≡ true → k < n → test k ≡ true
test-each test n k h l = subst (λ x. test x ≡ true) (zero-add k) (test-from test n k 0 h l)

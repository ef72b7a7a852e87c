-- The greatest number that passes a test.
use Rattle.std.proofs.Common.{◌≡◌, ℕ, zero, suc, ◌<◌, ◌≤◌, Bool, true, inl, inr, Some, refl, sym, ap, arith}
use Rattle.std.proofs.lemmas.Bool.{cond_both, cases_eq, cond-true, cond-false, cases_Bool}
use Rattle.za_alpha.specs.Search.{greatest}

-- e is the greatest number below n that passes
pub record IsGreatest (test : ℕ → Bool) (n e : ℕ) : Type 0 where
  pub below : e < n
  pub passes : test e ≡ true
  pub most : (i : ℕ) → i < n → test i ≡ true → i ≤ e

-- what is found is the greatest
pub greatest-sound : (test : ℕ → Bool) (n e : ℕ) → greatest test n ≡ Some e → IsGreatest test n e
greatest-sound test zero e = λ h. cc
greatest-sound test (suc n) e =
    cond_both (test n) (Some n) (greatest test n) (λ v. v ≡ Some e → IsGreatest test (suc n) e)
    (λ t h. let k : n ≡ e = cc in record { below = omega arith; passes = rw (← k) t; most = λ i l a. omega arith })
    (λ t h. let r = greatest-sound test n e h in
    record {
      below = omega arith;
      passes = r.passes;
      most = λ i l a. elim (cases_eq i n) [
        | inl k ↦ absurd (let b : test n ≡ true = rw (← k) a in cc)
        | inr ne ↦ r.most i (omega arith) a
      ];
    })

-- and the greatest is found
pub greatest-complete : (test : ℕ → Bool) (n e : ℕ) → e < n → test e ≡ true → ((i : ℕ) → i < n → test i ≡ true → i ≤ e) → greatest test n ≡ Some e
greatest-complete test zero e l a m = absurd (omega arith)
greatest-complete test (suc n) e l a m =
    elim (cases_eq e n) [
      | inl k ↦ let b : test n ≡ true = rw (← k) a in rw (cond-true (test n) (Some n) (greatest test n) b) (ap (λ v. Some v) (sym k))
      | inr ne ↦ elim (cases_Bool (test n)) [
        | inl t ↦ let h = m n (omega arith) t in absurd (omega arith)
        | inr t ↦ rw (cond-false (test n) (Some n) (greatest test n) t) (greatest-complete test n e (omega arith) a (λ i li ai. m i (omega arith) ai))
      ]
    ]

-- where one number passes, there is a greatest
pub greatest-some : (test : ℕ → Bool) (n i : ℕ) → i < n → test i ≡ true → (e : ℕ) × (greatest test n ≡ Some e)
greatest-some test zero i l a = absurd (omega arith)
greatest-some test (suc n) i l a =
    cond_both (test n) (Some n) (greatest test n) (λ v. (e : ℕ) × (v ≡ Some e))
    (λ t. (n, refl))
    (λ t. elim (cases_eq i n) [
      | inl k ↦ absurd (let b : test n ≡ true = rw (← k) a in cc)
      | inr ne ↦ greatest-some test n i (omega arith) a
    ])

-- Values of blocks that were put one after another.
use Rattle.std.proofs.Common.{◌≡◌, ◌≢◌, ℕ, ◌+◌, ◌-◌, ◌*◌, ◌^◌, ◌<◌, inl, inr, List, ◌++◌, length, get_or, sym, ap, subst, ◌∙◌, arith}
use Rattle.std.proofs.lemmas.Bool.{cases_lt}
use Rattle.std.proofs.lemmas.List.{get_or_append_left, get_or-append_right}
use Rattle.std.proofs.lemmas.Nat.{pow-add, mul-add-lt}

-- there are twice as many sets with one process more
pub twice : (r : ℕ) → 2 ^ (r + 1) ≡ 2 ^ r + 2 ^ r
twice r = let p : 2 ^ (r + 1) ≡ 2 ^ r * 2 = pow-add 2 r 1 in omega arith

-- the number before
pub one-more : (p : ℕ) → p ≢ 0 → p ≡ p - 1 + 1
one-more p some = omega arith

module _ (k r : ℕ) (low high : List ℕ) (long : length low ≡ 2 ^ r * k) where
  in-low : (m q : ℕ) → m < 2 ^ r → q < k → get_or (low ++ high) (m * k + q) 0 ≡ get_or low (m * k + q) 0
  in-low m q lm lq = get_or_append_left low high 0 (m * k + q) (let l = mul-add-lt m k q (2 ^ r) lm lq in omega arith)

  in-high : (m q : ℕ) → get_or (low ++ high) ((2 ^ r + m) * k + q) 0 ≡ get_or high (m * k + q) 0
  in-high m q =
      let e : (2 ^ r + m) * k + q ≡ 2 ^ r * k + (m * k + q) = omega arith in
      let at : (2 ^ r + m) * k + q - 2 ^ r * k ≡ m * k + q = omega arith in
      get_or-append_right low high (2 ^ r * k) ((2 ^ r + m) * k + q) 0 long (omega arith) ∙ ap (λ i. get_or high i 0) at

  -- what holds of the values of both halves holds of all
  pub halves : (P : ℕ → ℕ → ℕ → Type 0) → ((m q : ℕ) → m < 2 ^ r → q < k → P m q (get_or low (m * k + q) 0)) →
      ((m q : ℕ) → m < 2 ^ r → q < k → P (2 ^ r + m) q (get_or high (m * k + q) 0)) →
      (m q : ℕ) → m < 2 ^ (r + 1) → q < k → P m q (get_or (low ++ high) (m * k + q) 0)
  halves P below above m q lm lq = elim (cases_lt m (2 ^ r)) [
    | inl lt ↦ subst (P m q) (sym (in-low m q lt lq)) (below m q lt lq)
    | inr ge ↦
        let t = twice r in
        let j : ℕ = m - 2 ^ r in
        let at : 2 ^ r + j ≡ m = omega arith in
        let Q : ℕ → Type 0 = λ m. P m q (get_or (low ++ high) (m * k + q) 0) in
        subst Q at (subst (P (2 ^ r + j) q) (sym (in-high j q)) (above j q (omega arith) lq))
  ]

-- a block of the sets of some processes is twice one of those with one process less
pub half-size : (p k s size : ℕ) → p ≢ 0 → s ≡ 2 ^ (p - 1) → size ≡ 2 ^ p * k → size ≡ s * k + s * k
half-size p k s size some e z =
    let at : 2 ^ p ≡ 2 ^ (p - 1 + 1) = ap (λ m. 2 ^ m) (one-more p some) in
    let all : 2 ^ p ≡ s + s = at ∙ twice (p - 1) ∙ ap (λ m. m + m) (sym e) in
    let both : 2 ^ p * k ≡ (s + s) * k = ap (λ m. m * k) all in
    omega arith

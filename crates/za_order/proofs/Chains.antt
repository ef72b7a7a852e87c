-- Chains of events.
use Rattle.std.proofs.Common.{◌≡◌, ℕ, ◌<◌, ◌≤◌, true, ◌⊎◌, inl, inr, List, refl, arith}
use Rattle.std.proofs.lemmas.Bool.{cases_eq}
use Rattle.za_alpha.specs.Words.{has}
use Rattle.za_order.specs.Views.{Chain, Here, Then}

module _ (who : ℕ → List ℕ) where
  -- a chain goes up
  pub chain-le : {i k : ℕ} → Chain who i k → i ≤ k
  chain-le Here = omega arith
  chain-le (Then p c l a b) = let h = chain-le c in omega arith

  -- two chains make one
  pub chain-trans : {i j k : ℕ} → Chain who i j → Chain who j k → Chain who i k
  chain-trans c Here = c
  chain-trans c (Then p d l a b) = Then p (chain-trans c d) l a b

  -- two events of one process are in a chain
  pub chain-same : (p i k : ℕ) → i ≤ k → has (who i) p ≡ true → has (who k) p ≡ true → Chain who i k
  chain-same p i k l a b =
      elim (cases_eq i k) [
        | inl e ↦ rw (← e) (Here)
        | inr ne ↦ Then p Here (omega arith) a b
      ]

  -- the first step of a chain
  pub chain-first : {i k : ℕ} → Chain who i k →
      (i ≡ k) ⊎ ((j : ℕ) × (p : ℕ) × (i < j) × (has (who i) p ≡ true) × (has (who j) p ≡ true) × Chain who j k)
  chain-first Here = inl refl
  chain-first (Then {i = i} {j = m} {k = k} p c l a b) =
      elim (chain-first c) [
        | inl e ↦ inr (k, p, (rw e l), (rw e a), b, Here)
        | inr r ↦ inr (r.0, r.1, r.2, r.3, r.4, Then p r.5 l a b)
      ]

  -- the last step of a chain
  pub chain-last : {i k : ℕ} → Chain who i k →
      (i ≡ k) ⊎ ((j : ℕ) × (p : ℕ) × Chain who i j × (j < k) × (has (who j) p ≡ true) × (has (who k) p ≡ true))
  chain-last Here = inl refl
  chain-last (Then {j = j} p c l a b) = inr (j, p, c, l, a, b)

  -- a chain from an event with a process ends at one
  pub chain-process : {i k : ℕ} (p : ℕ) → has (who i) p ≡ true → Chain who i k → (q : ℕ) × (has (who k) q ≡ true)
  chain-process p h Here = (p, h)
  chain-process p h (Then q c l a b) = (q, b)

-- The numbers of sets of processes.
use Rattle.std.proofs.Common.{◌≡◌, ℕ, zero, suc, ◌/◌, ◌^◌, ◌<◌, ◌≤◌, Bool, true, false, ◌&&◌, inl, inr, refl, sym, ◌∙◌, arith, eqb, pow-suc}
use Rattle.std.specs.Prelude.{nat_lt}
use Rattle.std.specs.Int.{bit_at}
use Rattle.std.proofs.Math.Nat.{pow-zero}
use Rattle.std.proofs.lemmas.Bool.{cases_Bool}
use Rattle.std.proofs.lemmas.Bool.Decides.{nat_tests}
use Rattle.std.proofs.lemmas.Nat.{pow_pos}
use Rattle.std.proofs.lemmas.Nat.Bits.{bit_at_lowest, bit_at-suc, bit_at-lt}
use Rattle.za_alpha.specs.declared.procs.Procs.{Procs}
use Rattle.za_alpha.specs.Words.{has}
use Rattle.za_alpha.specs.Procs.{members}
use Rattle.za_alpha.proofs.Members.{has-members}

-- a number without bits from n on is below 2 ^ n
pub few-bits : (w n m : ℕ) → m < 2 ^ w → ((i : ℕ) → n ≤ i → i < w → bit_at m i ≡ 0) → m < 2 ^ n
few-bits zero n m l h = let p = pow_pos n in omega (arith, pow-zero 2)
few-bits (suc w) zero m l h =
    let high = few-bits w zero (m / 2) (omega (arith, pow-suc 2 w)) (λ i a b. sym (bit_at-suc m i) ∙ h (suc i) (omega arith) (omega arith)) in
    let low = sym (bit_at_lowest m) ∙ h 0 (omega arith) (omega arith) in
    omega (arith, pow-zero 2)
few-bits (suc w) (suc n) m l h =
    let high = few-bits w n (m / 2) (omega (arith, pow-suc 2 w)) (λ i a b. sym (bit_at-suc m i) ∙ h (suc i) (omega arith) (omega arith)) in
    omega (arith, pow-suc 2 n)

-- the number of a set of processes below n is below 2 ^ n
pub number-below : (s : Procs) (n : ℕ) → s.0 < 2 ^ 16 → ((y : ℕ) → has (members s) y ≡ true → y < n) → s.0 < 2 ^ n
number-below s n small h =
    few-bits 16 n s.0 small (λ i a b. elim (cases_Bool (has (members s) i)) [
      | inl t ↦ absurd (let l = h i t in omega arith)
      | inr f ↦
          let bit = bit_at-lt s.0 i in
          let low : nat_lt i 16 ≡ true = grind (arith, nat_tests) in
          let off : (eqb (bit_at s.0 i) 1 && nat_lt i 16) ≡ false = sym (has-members s i) ∙ f in
          zero-bit (bit_at s.0 i) (nat_lt i 16) bit low off
    ])
  where
    zero-bit : (bit : ℕ) (low : Bool) → bit < 2 → low ≡ true → (eqb bit 1 && low) ≡ false → bit ≡ 0
    zero-bit zero low l t off = refl
    zero-bit (suc zero) low l t off = let z : true ≡ false = sym t ∙ off in cc
    zero-bit (suc (suc b)) low l t off = absurd (omega arith)

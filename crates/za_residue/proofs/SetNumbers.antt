-- The numbers of sets of processes.
use Rattle.std.proofs.Common.{◌≡◌, ℕ, ◌+◌, ◌-◌, ◌*◌, ◌^◌, ◌<◌, true, false, ◌||◌, ◌&&◌, ◌==◌, inl, inr, eqb, eq-eqb, ne_eqb, sym, ap, ◌∙◌, arith}
use Rattle.std.specs.Prelude.{nat_lt}
use Rattle.std.specs.Int.{bit_at}
use Rattle.std.proofs.lemmas.Bool.{cases_order, or_left}
use Rattle.std.proofs.lemmas.Bool.Decides.{nat_tests}
use Rattle.std.proofs.lemmas.Nat.Bits.{bit_at-zero, bit_at_cat_low, bit_at_cat_high, bit_at_above}
use Rattle.za_alpha.specs.declared.procs.Procs.{Procs}
use Rattle.za_alpha.specs.Words.{has}
use Rattle.za_alpha.specs.Procs.{members}
use Rattle.za_alpha.proofs.Members.{has-members, and-true}
use Rattle.za_residue.specs.Functions.{in_set}

-- the set with the number 0 has no member
pub in-none : (y : ℕ) → in_set 0 y ≡ false
in-none y = ap (λ b. b == 1) (bit_at-zero y)

-- a set has its processes below the width by its number
pub in-members : (s : Procs) (y : ℕ) → y < 16 → in_set s.0 y ≡ has (members s) y
in-members s y l =
    let low : nat_lt y 16 ≡ true = grind (arith, nat_tests) in
    sym (has-members s y ∙ ap (λ b. eqb (bit_at s.0 y) 1 && b) low ∙ and-true (eqb (bit_at s.0 y) 1))

-- the processes of a set with a greatest one
pub in-top : (r m y : ℕ) → m < 2 ^ r → in_set (2 ^ r + m) y ≡ (eqb y r || in_set m y)
in-top r m y lm =
    let one : 1 * 2 ^ r + m ≡ 2 ^ r + m = omega arith in
    let at : in_set (2 ^ r + m) y ≡ in_set (1 * 2 ^ r + m) y = ap (λ n. in_set n y) (sym one) in
    elim (cases_order y r) [
      | inl e ↦
          let top : bit_at (1 * 2 ^ r + m) y ≡ bit_at 1 (y - r) = bit_at_cat_high 1 r m y lm (omega arith) in
          let z : y - r ≡ 0 = omega arith in
          at ∙ ap (λ b. b == 1) (top ∙ ap (bit_at 1) z) ∙ sym (or_left (eqb y r) (in_set m y) (eq-eqb y r e))
      | inr (inl lt) ↦ at ∙ ap (λ b. b == 1) (bit_at_cat_low 1 r m y lt) ∙ sym (ap (λ b. b || in_set m y) (ne_eqb y r (λ e. absurd (omega arith))))
      | inr (inr gt) ↦
          let top : bit_at (1 * 2 ^ r + m) y ≡ bit_at 1 (y - r) = bit_at_cat_high 1 r m y lm (omega arith) in
          let none : bit_at 1 (y - r) ≡ 0 = bit_at_above 1 1 (y - r) (omega arith) (omega arith) in
          let other : bit_at m y ≡ 0 = bit_at_above m r y lm (omega arith) in
          at ∙ ap (λ b. b == 1) (top ∙ none) ∙ sym (ap (λ b. b || in_set m y) (ne_eqb y r (λ e. absurd (omega arith))) ∙ ap (λ b. b == 1) other)
    ]

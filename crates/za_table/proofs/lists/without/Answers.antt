use Rattle.std.proofs.Common.{◌≡◌, ℕ, ◌*◌, ◌%◌, ◌^◌, ◌<◌, ◌&&◌, not, nat_lt, true, false, Bool, sym, ap, ◌∙◌, arith, inl, inr, eqb, refl}
use Rattle.std.specs.Prelude.{bit_and}
use Rattle.std.specs.Int.{bit_at, bit_not, w16}
use Rattle.std.proofs.lemmas.Nat.Bits.{bit_at_and, bit_at_or, bit_at_not, bit_at-zero, bit_at-lt, bit_at_set_same, bit_at_set_other}
use Rattle.std.proofs.lemmas.Bool.{cases_Bool}
use Rattle.std.proofs.lemmas.Bool.Decides.{eqb_tells, nat_tests}
use Rattle.za_alpha.proofs.Members.{has-members, and-true, and-false}
use Rattle.za_table.proofs.lists.without.Goals as goal

-- the bits of a power of two
own-bit : (p : ℕ) → p < 16 → bit_at (1 * 2 ^ p % 65536) p ≡ 1
own-bit p l = let a = bit_at_set_same w16 0 p l in let b = bit_at_or 0 (1 * 2 ^ p % 65536) p in let z = bit_at-zero p in omega arith

other-bit : (p q : ℕ) → p < 16 → (q ≡ p → ⊥) → bit_at (1 * 2 ^ p % 65536) q ≡ 0
other-bit p q l n = let a = bit_at_set_other w16 0 p l q n in let b = bit_at_or 0 (1 * 2 ^ p % 65536) q in let z = bit_at-zero q in omega arith

-- the bit of each process after one was cleared
cleared : (s p q : ℕ) → p < 16 → q < 16 → eqb (bit_at (bit_and s (bit_not w16 (1 * 2 ^ p % 65536))) q) 1 ≡ (eqb (bit_at s q) 1 && not (eqb q p))
cleared s p q l m =
    let both = bit_at_and s (bit_not w16 (1 * 2 ^ p % 65536)) q in
    let n = bit_at_not w16 (1 * 2 ^ p % 65536) q (omega arith) m in
    let b = bit_at-lt s q in
    elim (eqb_tells q p) [
      | inl e ↦
          let one = ap (bit_at (1 * 2 ^ p % 65536)) e.1 ∙ own-bit p l in
          let z : bit_at (bit_and s (bit_not w16 (1 * 2 ^ p % 65536))) q ≡ 0 = omega arith in
          ap (λ k. eqb k 1) z ∙ sym (ap (λ x. eqb (bit_at s q) 1 && not x) e.0 ∙ and-false (eqb (bit_at s q) 1))
      | inr e ↦
          let none = other-bit p q l e.1 in
          let z : bit_at (bit_and s (bit_not w16 (1 * 2 ^ p % 65536))) q ≡ bit_at s q = omega arith in
          ap (λ k. eqb k 1) z ∙ sym (ap (λ x. eqb (bit_at s q) 1 && not x) e.0 ∙ and-true (eqb (bit_at s q) 1))
    ]

swapped : (a b c : Bool) → ((a && b) && c) ≡ ((a && c) && b)
swapped true true true = refl
swapped true true false = refl
swapped true false true = refl
swapped true false false = refl
swapped false b c = refl

pub returns : goal.returns
returns c = λ q.
    let s : ℕ = c.args.set.0 in
    let p : ℕ = c.args.p in
    let n : ℕ = bit_and s (bit_not w16 (1 * 2 ^ p % 65536)) in
    has-members (record { 0 = n }) q ∙ elim (cases_Bool (nat_lt q 16)) [
      | inl t ↦
          ap (λ b. b && nat_lt q 16) (cleared s p q c.requires (let low : q < 16 = grind (arith, nat_tests) in low)) ∙ swapped (eqb (bit_at s q) 1)
          (not (eqb q p)) (nat_lt q 16)
          ∙ ap (λ b. b && not (eqb q p)) (sym (has-members c.args.set q))
      | inr f ↦
          ap (λ b. eqb (bit_at n q) 1 && b) f ∙ and-false (eqb (bit_at n q) 1)
          ∙ sym (ap (λ b. b && not (eqb q p)) (has-members c.args.set q ∙ ap (λ b. eqb (bit_at s q) 1 && b) f ∙ and-false (eqb (bit_at s q) 1)))
    ]

-- Bits of unions, of common parts and of single places.
use Rattle.std.proofs.Common.{◌≡◌, ◌≢◌, ℕ, suc, ◌<◌, ◌≤◌, ◌^◌, Bool, true, false, not, ◌||◌, ◌&&◌, ◌==◌, ◌⊎◌, inl, inr, refl, sym, ap, subst, ◌∙◌, arith}
use Rattle.std.proofs.Common.{eq-eqb, bit_or, bit_and, max, min}
use Rattle.std.specs.Int.{bit_at}
use Rattle.std.specs.List.{list_any, range_with_len}
use Rattle.std.proofs.lemmas.Bool.{cases_eq, cases_lt, cases_Bool, ne_eqb, and_parts, and_from}
use Rattle.std.proofs.lemmas.Nat.Bits.{bit_at_or, bit_at_and, bit_at-lt, bit_at-zero, bit_at_above, bit_at-pow_same, bit_at-pow_other, same_from_bits}
use Rattle.za_alpha.specs.Words.{has}
use Rattle.za_expression.proofs.Values.{any_from, any_to, filter_to, filter_from, range_from}
use Rattle.za_form.specs.Private.Numbers.{has_bit, places_of}

small : (x : ℕ) → x < 2 → (x ≡ 0) ⊎ (x ≡ 1)
small x l = elim (cases_eq x 0) [ inl e ↦ inl e | inr n ↦ inr (omega arith) ]

-- a test of two bits
both : (f : ℕ → ℕ → ℕ) (g : Bool → Bool → Bool) (x y : ℕ) → x < 2 → y < 2 → (f 0 0 == 1) ≡ g false false → (f 0 1 == 1) ≡ g false true →
    (f 1 0 == 1) ≡ g true false → (f 1 1 == 1) ≡ g true true →
    (f x y == 1) ≡ g (x == 1) (y == 1)
both f g x y xl yl a b c d =
    elim (small x xl) [
      | inl ex ↦ elim (small y yl) [ inl ey ↦ at 0 0 ex ey a | inr ey ↦ at 0 1 ex ey b ]
      | inr ex ↦ elim (small y yl) [ inl ey ↦ at 1 0 ex ey c | inr ey ↦ at 1 1 ex ey d ]
    ]
  where
    at : (u v : ℕ) → x ≡ u → y ≡ v → (f u v == 1) ≡ g (u == 1) (v == 1) → (f x y == 1) ≡ g (x == 1) (y == 1)
    at u v e k h = subst (λ z. (f z y == 1) ≡ g (z == 1) (y == 1)) (sym e) (subst (λ z. (f u z == 1) ≡ g (u == 1) (z == 1)) (sym k) h)

pub has_bit-or : (a b q : ℕ) → has_bit (bit_or a b) q ≡ (has_bit a q || has_bit b q)
has_bit-or a b q = ap (λ x. x == 1) (bit_at_or a b q) ∙ both max (λ x y. x || y) (bit_at a q) (bit_at b q) (bit_at-lt a q) (bit_at-lt b q) refl refl refl refl

pub has_bit-and : (a b q : ℕ) → has_bit (bit_and a b) q ≡ (has_bit a q && has_bit b q)
has_bit-and a b q = ap (λ x. x == 1) (bit_at_and a b q) ∙ both min (λ x y. x && y) (bit_at a q) (bit_at b q) (bit_at-lt a q) (bit_at-lt b q) refl refl refl refl

pub has_bit-pow : (p q : ℕ) → has_bit (2 ^ p) q ≡ (p == q)
has_bit-pow p q =
    elim (cases_eq p q) [
      | inl e ↦ subst (λ x. has_bit (2 ^ p) x ≡ (p == x)) e (ap (λ x. x == 1) (bit_at-pow_same p) ∙ sym (eq-eqb p p refl))
      | inr n ↦ ap (λ x. x == 1) (bit_at-pow_other p q (λ e. n (sym e))) ∙ sym (ne_eqb p q n)
    ]

pub zero_bit : (q : ℕ) → has_bit 0 q ≡ false
zero_bit q = ap (λ x. x == 1) (bit_at-zero q)

pub above_bit : (m n q : ℕ) → m < 2 ^ n → n ≤ q → has_bit m q ≡ false
above_bit m n q l h = ap (λ x. x == 1) (bit_at_above m n q l h)

-- bits as the tests of them say
bit_from : (m k i : ℕ) → has_bit m i ≡ has_bit k i → bit_at m i ≡ bit_at k i
bit_from m k i e =
    elim (small (bit_at m i) (bit_at-lt m i)) [
      | inl x ↦ elim (small (bit_at k i) (bit_at-lt k i)) [
        | inl y ↦ x ∙ sym y
        | inr y ↦ let z : (0 == 1) ≡ (1 == 1) = subst (λ u. (u == 1) ≡ (1 == 1)) x (subst (λ u. (bit_at m i == 1) ≡ (u == 1)) y e) in cc
      ]
      | inr x ↦ elim (small (bit_at k i) (bit_at-lt k i)) [
        | inr y ↦ x ∙ sym y
        | inl y ↦ let z : (1 == 1) ≡ (0 == 1) = subst (λ u. (u == 1) ≡ (0 == 1)) x (subst (λ u. (bit_at m i == 1) ≡ (u == 1)) y e) in cc
      ]
    ]

-- numbers with the same bits are one
pub same_bits : (m k : ℕ) → ((i : ℕ) → has_bit m i ≡ has_bit k i) → m ≡ k
same_bits m k h = same_from_bits m k (λ i. bit_from m k i (h i))

-- a place of a number
pub place_of_bit : (n m q : ℕ) → m < 2 ^ suc n → has_bit m q ≡ true → has (places_of n m) q ≡ true
place_of_bit n m q l h =
    elim (cases_lt q (suc n)) [
      | inl x ↦ filter_from (λ p. has_bit m p) (range_with_len 0 (suc n)) q (range_from 0 (suc n) q (omega arith) (omega arith)) h
      | inr x ↦ absurd (let z : true ≡ false = sym h ∙ above_bit m (suc n) q l x in cc)
    ]

-- some place of m is one of the set e exactly if they have a common bit
pub any_common : (e m n : ℕ) (test : ℕ → Bool) → ((q : ℕ) → has_bit e q ≡ test q) → m < 2 ^ suc n → not (bit_and e m == 0) ≡ list_any test (places_of n m)
any_common e m n test is l =
    elim (cases_Bool (list_any test (places_of n m))) [
      | inl t ↦
          let p = any_to test (places_of n m) t in
          let k = filter_to (λ p. has_bit m p) (range_with_len 0 (suc n)) p.0 p.1 in
          let b : has_bit (bit_and e m) p.0 ≡ true = has_bit-and e m p.0 ∙ and_from (has_bit e p.0) (has_bit m p.0) (is p.0 ∙ p.2) k.1 in
          let some : bit_and e m ≢ 0 = λ z. let w : true ≡ false = sym b ∙ ap (λ x. has_bit x p.0) z ∙ zero_bit p.0 in cc in
          ap not (ne_eqb (bit_and e m) 0 some) ∙ sym t
      | inr f ↦
          let none : (q : ℕ) → has_bit (bit_and e m) q ≡ false = λ q. elim (cases_Bool (has_bit (bit_and e m) q)) [
            | inr z ↦ z
            | inl z ↦
                let k = and_parts (has_bit e q) (has_bit m q) (sym (has_bit-and e m q) ∙ z) in
                absurd (let w : true ≡ false = sym (any_from test (places_of n m) q (place_of_bit n m q l k.1) (sym (is q) ∙ k.0)) ∙ f in cc)
          ] in
          let z : bit_and e m ≡ 0 = same_bits (bit_and e m) 0 (λ q. none q ∙ sym (zero_bit q)) in
          ap not (eq-eqb (bit_and e m) 0 z) ∙ sym f
    ]

-- Sets of places as numbers.
use Rattle.std.proofs.Common.{◌≡◌, ℕ, zero, suc, ◌+◌, ◌-◌, ◌*◌, ◌^◌, ◌<◌, ◌≤◌, Bool, true, false, ◌&&◌, ◌==◌, nat_lt, cond, ◌⊎◌, inl, inr, List, [], ◌∷◌}
use Rattle.std.proofs.Common.{filter, refl, sym, ap, subst, ◌∙◌, arith, eqb-true}
use Rattle.std.specs.List.{list_any, range_with_len}
use Rattle.std.specs.Int.{bit_at}
use Rattle.std.proofs.Math.Nat.{pow-suc, sub_self}
use Rattle.std.proofs.lemmas.Bool.{cases_Bool, cases_lt, cond-true, cond-false, lt-ltb, or_right, eqb-false}
use Rattle.std.proofs.lemmas.Nat.Bits.{bit_at_cat_low, bit_at_cat_high, bit_at_above, same_from_bits_below, bit_at-lt}
use Rattle.za_expression.specs.Forms.{Form}
use Rattle.za_expression.specs.Following.{goes, accepts, step, following_value}
use Rattle.za_expression.specs.Forms.{is_meant}
use Rattle.za_expression.specs.Private.Ordered.{Spans}
use Rattle.za_alpha.specs.Words.{has}
use Rattle.za_expression.proofs.Values.{has-own, filter_to, filter_from, range_to, range_from}
use Rattle.za_expression.proofs.FormValues.{accepts_meets}
use Rattle.za_dfa.specs.Automata.{IsTotal, walk, is_accepted}
use Rattle.za_form.specs.Private.Numbers.{bits_of, has_bit, places_of, position_step, positions}

pub bits-below : (test : ℕ → Bool) (n : ℕ) → bits_of test n < 2 ^ n
bits-below test zero = omega arith
bits-below test (suc n) =
    let k = bits-below test n in
    let p = pow-suc 2 n in
    elim (cases_Bool (test n)) [
      | inl t ↦ let c = cond-true (test n) 1 0 t in subst (λ x. x * 2 ^ n + bits_of test n < 2 ^ suc n) (sym c) (omega arith)
      | inr t ↦ let c = cond-false (test n) 1 0 t in subst (λ x. x * 2 ^ n + bits_of test n < 2 ^ suc n) (sym c) (omega arith)
    ]

one_or_none : (b : Bool) → (bit_at (cond b 1 0) 0 == 1) ≡ b
one_or_none true = refl
one_or_none false = refl

pub has-bits : (test : ℕ → Bool) (n q : ℕ) → q < n → has_bit (bits_of test n) q ≡ test q
has-bits test zero q l = absurd (omega arith)
has-bits test (suc n) q l =
    let k = bits-below test n in
    elim (cases_lt q n) [
      | inl lt ↦ ap (λ x. x == 1) (bit_at_cat_low (cond (test n) 1 0) n (bits_of test n) q lt) ∙ has-bits test n q lt
      | inr le ↦
          let e : q ≡ n = omega arith in
          let h : bit_at (cond (test n) 1 0 * 2 ^ n + bits_of test n) n ≡ bit_at (cond (test n) 1 0) (n - n) =
          bit_at_cat_high (cond (test n) 1 0) n (bits_of test n) n k (omega arith) in
          let h0 : bit_at (cond (test n) 1 0 * 2 ^ n + bits_of test n) n ≡ bit_at (cond (test n) 1 0) 0 =
          subst (λ x. bit_at (cond (test n) 1 0 * 2 ^ n + bits_of test n) n ≡ bit_at (cond (test n) 1 0) x) (sub_self n) h in
          subst (λ x. has_bit (bits_of test (suc n)) x ≡ test x) (sym e) (ap (λ x. x == 1) h0 ∙ one_or_none (test n))
    ]

pub filter_same : (f g : ℕ → Bool) (ps : List ℕ) → ((p : ℕ) → has ps p ≡ true → f p ≡ g p) → filter f ps ≡ filter g ps
filter_same f g [] h = refl
filter_same f g (p ∷ ps) h =
    let r = filter_same f g ps (λ q k. h q (or_right (p == q) (has ps q) k)) in
    let e = h p (has-own p ps) in
    ap (λ b. cond b (p ∷ filter f ps) (filter f ps)) e ∙ ap (λ x. cond (g p) (p ∷ x) x) r

-- a step by numbers is a step by lists of places
pub step-places : (f : Form) (letter : ℕ → ℕ) (n m a : ℕ) → places_of n (position_step f letter n m a) ≡ step (goes f) letter n (places_of n m) a
step-places f letter n m a =
    filter_same (λ p. has_bit (position_step f letter n m a) p) test (range_with_len 0 (suc n)) (λ p h. let l = range_to 0 (suc n) p h in let b = l.below in
    has-bits test (suc n) p (omega arith))
    ∙ filter_same test (λ q. letter q == a && list_any (λ p. goes f p q) (places_of n m)) (range_with_len 1 n) (λ p h. let l = range_to 1 n p h in
    let z = l.from in positive p z)
  where
    test : ℕ → Bool
    test q = nat_lt 0 q && (letter q == a && list_any (λ p. goes f p q) (places_of n m))

    positive : (p : ℕ) → 1 ≤ p → test p ≡ (letter p == a && list_any (λ s. goes f s p) (places_of n m))
    positive p l = ap (λ b. b && (letter p == a && list_any (λ s. goes f s p) (places_of n m))) (lt-ltb 0 p (omega arith))

pub start-places : (n : ℕ) → places_of n 1 ≡ 0 ∷ []
start-places n = ap (λ x. 0 ∷ x) (filter_same (λ p. has_bit 1 p) (λ p. false) (range_with_len 1 n) (λ p h. let l = range_to 1 n p h in let z = l.from in
    none p z) ∙ empty (range_with_len 1 n))
  where
    empty : (ps : List ℕ) → filter (λ p. false) ps ≡ []
    empty [] = refl
    empty (p ∷ ps) = empty ps

    none : (p : ℕ) → 1 ≤ p → has_bit 1 p ≡ false
    none p l = ap (λ x. x == 1) (bit_at_above 1 1 p (omega arith) l)

pub walk-places : (f : Form) (letter : ℕ → ℕ) (n letters : ℕ) (u : List ℕ) (m : ℕ) →
    places_of n (walk (positions f letter n letters).step m u) ≡ walk (step (goes f) letter n) (places_of n m) u
walk-places f letter n letters [] m = refl
walk-places f letter n letters (a ∷ u) m =
    walk-places f letter n letters u (position_step f letter n m a) ∙ ap (λ x. walk (step (goes f) letter n) x u) (step-places f letter n m a)

pub value-places : (f : Form) (letter : ℕ → ℕ) (n letters : ℕ) (u : List ℕ) →
    places_of n (walk (positions f letter n letters).step 1 u) ≡ following_value (goes f) letter n u
value-places f letter n letters u = walk-places f letter n letters u 1 ∙ ap (λ x. walk (step (goes f) letter n) x u) (start-places n)

pub positions-total : (f : Form) (letter : ℕ → ℕ) (n letters : ℕ) → IsTotal (positions f letter n letters)
positions-total f letter n letters = record {
  starts = let p = pow-suc 2 n in let k = pos n in omega arith;
  steps = λ q a h k. bits-below (λ r. nat_lt 0 r && (letter r == a && list_any (λ p. goes f p r) (places_of n q))) (suc n);
}
  where
    pos : (k : ℕ) → 0 < 2 ^ k
    pos zero = omega arith
    pos (suc k) = let p = pow-suc 2 k in let r = pos k in omega arith

-- numbers that stand for the same places are one
pub bit-from-places : (n m i : ℕ) → i < suc n → has (places_of n m) i ≡ has_bit m i
bit-from-places n m i l =
    elim (cases_Bool (has_bit m i)) [
      | inl t ↦ filter_from (λ p. has_bit m p) (range_with_len 0 (suc n)) i (range_from 0 (suc n) i (omega arith) (omega arith)) t ∙ sym t
      | inr t ↦ false_here (cases_Bool (has (places_of n m) i)) t
    ]
  where
    false_here : (has (places_of n m) i ≡ true) ⊎ (has (places_of n m) i ≡ false) → has_bit m i ≡ false → has (places_of n m) i ≡ has_bit m i
    false_here (inl h) t = let k = (filter_to (λ p. has_bit m p) (range_with_len 0 (suc n)) i h).1 in h ∙ sym k
    false_here (inr h) t = h ∙ sym t

same_bit : (x y : ℕ) → x < 2 → y < 2 → (x == 1) ≡ (y == 1) → x ≡ y
same_bit x y a b e =
    elim (cases_Bool (x == 1)) [
      | inl t ↦ eqb-true x 1 t ∙ sym (eqb-true y 1 (sym e ∙ t))
      | inr t ↦ let p = eqb-false x 1 t in let q = eqb-false y 1 (sym e ∙ t) in both p q
    ]
  where
    both : (x ≡ 1 → ⊥) → (y ≡ 1 → ⊥) → x ≡ y
    both p q = omega arith

pub places-same : (n m k : ℕ) → m < 2 ^ suc n → k < 2 ^ suc n → places_of n m ≡ places_of n k → m ≡ k
places-same n m k a b e =
    same_from_bits_below (suc n) m k a b (λ i l.
    same_bit (bit_at m i) (bit_at k i) (bit_at-lt m i) (bit_at-lt k i) (sym (bit-from-places n m i l) ∙ (ap (λ x. has x i) e ∙ bit-from-places n k i l)))

pub language : (f : Form) (letter : ℕ → ℕ) (n letters : ℕ) (u : List ℕ) → Spans 1 f (1 + n) → is_accepted (positions f letter n letters) u ≡ is_meant letter f u
language f letter n letters u s = ap (λ x. accepts f x) (value-places f letter n letters u) ∙ accepts_meets f letter n u s

-- Lists of blocks of one length.
use Rattle.std.proofs.Common.{◌≡◌, ℕ, zero, suc, ◌+◌, ◌-◌, ◌*◌, ◌<◌, List, ◌++◌, length, get_or, flat_map, sym, ap, ◌∙◌, arith, length-append, add-zero}
use Rattle.std.specs.List.{range_with_len}
use Rattle.std.proofs.lemmas.List.{get_or_append_left, get_or-append_right}
use Rattle.std.proofs.Math.Nat.{suc-mul}

first-place : (m r : ℕ) → 0 * m + r ≡ r
first-place m r = omega arith

module _ (f : ℕ → List ℕ) (m : ℕ) (wide : (x : ℕ) → length (f x) ≡ m) where
  -- the place r of the block q
  entry-from : (a n q r : ℕ) → q < n → r < m → get_or (flat_map f (range_with_len a n)) (q * m + r) 0 ≡ get_or (f (a + q)) r 0
  entry-from a zero q r lq lr = absurd (omega arith)
  entry-from a (suc n) zero r lq lr =
      let h = wide a in
      ap (λ i. get_or (f a ++ flat_map f (range_with_len (a + 1) n)) i 0) (first-place m r)
      ∙ get_or_append_left (f a) (flat_map f (range_with_len (a + 1) n)) 0 r (omega arith) ∙ ap (λ x. get_or (f x) r 0) (sym (add-zero a))
  entry-from a (suc n) (suc q) r lq lr =
      let s = suc-mul q m in
      let next : suc q * m + r - m ≡ q * m + r = omega arith in
      let at : a + 1 + q ≡ a + suc q = omega arith in
      get_or-append_right (f a) (flat_map f (range_with_len (a + 1) n)) m (suc q * m + r) 0 (wide a) (omega arith)
      ∙ ap (λ i. get_or (flat_map f (range_with_len (a + 1) n)) i 0) next
      ∙ entry-from (a + 1) n q r (omega arith) lr ∙ ap (λ x. get_or (f x) r 0) at

  pub entry-of-block : (n q r : ℕ) → q < n → r < m → get_or (flat_map f (range_with_len 0 n)) (q * m + r) 0 ≡ get_or (f q) r 0
  entry-of-block n q r lq lr = entry-from 0 n q r lq lr ∙ (let at : 0 + q ≡ q = omega arith in ap (λ x. get_or (f x) r 0) at)

  -- the length of all of them
  length-blocks-from : (a n : ℕ) → length (flat_map f (range_with_len a n)) ≡ n * m
  length-blocks-from a zero = omega arith
  length-blocks-from a (suc n) = let s = suc-mul n m in let h = wide a in let ih = length-blocks-from (a + 1) n in
      omega (arith, length-append (f a) (flat_map f (range_with_len (a + 1) n)))

  pub length-blocks : (n : ℕ) → length (flat_map f (range_with_len 0 n)) ≡ n * m
  length-blocks n = length-blocks-from 0 n

-- The rows of numbers.
use Rattle.std.proofs.Common.{◌≡◌, ℕ, zero, suc, ◌+◌, ◌*◌, List, [], ◌∷◌, ◌++◌, map, flat_map, replicate, refl, sym, ap, ◌∙◌, arith}
use Rattle.std.specs.List.{range_with_len}
use Rattle.std.proofs.Math.Nat.{suc-mul, mul_assoc}
use Rattle.std.proofs.lemmas.List.{replicate-append-replicate}
use Rattle.za_gossip.specs.Rows.{Rows, rows_after, blank_rows}

-- equal rows
pub same-rows : (a b : Rows) → a.primary ≡ b.primary → a.secondary ≡ b.secondary → a.tertiary ≡ b.tertiary → a ≡ b
same-rows a b e f g =
    ap (λ (x : List ℕ). record { primary = x; secondary = a.secondary; tertiary = a.tertiary }) e
    ∙ ap (λ (x : List ℕ). record { primary = b.primary; secondary = x; tertiary = a.tertiary }) f
    ∙ ap (λ (x : List ℕ). record { primary = b.primary; secondary = b.secondary; tertiary = x }) g

-- a row of zeros
zeros : (a n : ℕ) → map {B = ℕ} (λ q. 0) (range_with_len a n) ≡ replicate {A = ℕ} n 0
zeros a zero = refl
zeros a (suc n) = ap (λ (xs : List ℕ). 0 ∷ xs) (zeros (a + 1) n)

-- and several of them
zero-blocks : (a n m : ℕ) → flat_map (λ q. replicate {A = ℕ} m 0) (range_with_len a n) ≡ replicate (n * m) 0
zero-blocks a zero m = let e : 0 ≡ 0 * m = omega arith in ap (λ k. replicate {A = ℕ} k 0) e
zero-blocks a (suc n) m =
    ap (λ (xs : List ℕ). replicate m 0 ++ xs) (zero-blocks (a + 1) n m) ∙ replicate-append-replicate m (n * m) 0
    ∙ (let e : m + n * m ≡ suc n * m = omega (arith, suc-mul n m) in ap (λ k. replicate {A = ℕ} k 0) e)

-- before any event all entries are none
pub blank-opening : (loc : ℕ → List ℕ) (n p : ℕ) → blank_rows n ≡ rows_after loc n [] p
blank-opening loc n p =
    let row : map {B = ℕ} (λ q. 0) (range_with_len 0 n) ≡ replicate {A = ℕ} n 0 = zeros 0 n in
    let square : flat_map (λ q. map {B = ℕ} (λ r. 0) (range_with_len 0 n)) (range_with_len 0 n) ≡ replicate (n * n) 0 =
    ap (λ (xs : List ℕ). flat_map (λ q. xs) (range_with_len 0 n)) row ∙ zero-blocks 0 n n in
    same-rows (blank_rows n) (rows_after loc n [] p) (sym row) (sym square)
    (sym (ap (λ (xs : List ℕ). flat_map (λ q. xs) (range_with_len 0 n)) square ∙ zero-blocks 0 n (n * n)
    ∙ (let e : n * (n * n) ≡ n * n * n = sym (mul_assoc n n n) in ap (λ k. replicate {A = ℕ} k 0) e)))

-- Numbers of events, taken apart.
use Rattle.std.proofs.Common.{◌≡◌, ℕ, ◌+◌, ◌-◌, ◌*◌, ◌/◌, ◌%◌, ◌^◌, ◌<◌, ◌≤◌, ◌==◌, true, List, length, map, ap, ◌∙◌, sym, arith, eq-eqb}
use Rattle.std.proofs.Math.Nat.{mul_assoc, pow-le-pow_left}
use Rattle.std.proofs.lemmas.Nat.{div-mul-add, mod-mul-add}
use Rattle.std.proofs.lemmas.List.{length-map}
use Rattle.za_alpha.specs.Limits.{most_processes}
use Rattle.za_alpha.specs.Words.{has}
use Rattle.za_order.specs.Labels.{number_of}
use Rattle.za_order.proofs.Sets.{any-here, has-map}
use Rattle.za_order.proofs.Least.{cube, pigeonhole}

-- the cube as the program multiplies it
pub cube-product : (n : ℕ) → n * n * n ≡ n ^ 3
cube-product n = mul_assoc n n n ∙ sym (cube n)

-- what is above 0 of a number is its letter times the number of labels, and its label
above-none : (n a k v : ℕ) → v ≡ number_of n a k → v - 1 ≡ a * (n ^ 3 + 1) + k
above-none n a k v e = omega arith

pub number-letter : (n a k v : ℕ) → k ≤ n ^ 3 → v ≡ number_of n a k → (v - 1) / (n ^ 3 + 1) ≡ a
number-letter n a k v l e = ap (λ x. x / (n ^ 3 + 1)) (above-none n a k v e) ∙ div-mul-add a (n ^ 3 + 1) k (omega arith)

pub number-label : (n a k v : ℕ) → k ≤ n ^ 3 → v ≡ number_of n a k → (v - 1) % (n ^ 3 + 1) ≡ k
number-label n a k v l e = ap (λ x. x % (n ^ 3 + 1)) (above-none n a k v e) ∙ mod-mul-add a (n ^ 3 + 1) k (omega arith)

-- the greatest cube
pub cube-small : (n : ℕ) → n ≤ most_processes → n ^ 3 ≤ most_processes ^ 3
cube-small n h = pow-le-pow_left h 3

-- a list that has the numbers of the first m labels of a letter has m elements at least
pub labels-fill : (n a m : ℕ) (xs : List ℕ) → ((k : ℕ) → k < m → has xs (number_of n a k) ≡ true) → m ≤ length xs
labels-fill n a m xs h =
    let label : ℕ → ℕ = λ v. v - number_of n a 0 in
    let long = length-map xs label in
    let most = pigeonhole m (map label xs)
    (λ k l. has-map label xs k ∙ any-here (λ v. label v == k) xs (number_of n a k) (h k l) (eq-eqb (label (number_of n a k)) k (omega arith))) in
    omega arith

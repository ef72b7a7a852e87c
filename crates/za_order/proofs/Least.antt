-- The least number that is not in a list.
use Rattle.std.proofs.Math.Nat.{pow-zero}
use Rattle.std.proofs.Common.{pow-suc, ◌≡◌, ℕ, zero, suc, ◌*◌, ◌^◌, ◌<◌, ◌≤◌, true, false, not, inl, inr, List, [], ◌∷◌, ◌==◌, length, filter, filter_map}
use Rattle.std.proofs.Common.{flat_map, Option, Some, None, sym, ◌∙◌, arith, eq-eqb, ne_eqb, length-append}
use Rattle.std.specs.List.{cons_option}
use Rattle.std.proofs.lemmas.Bool.{cond_both, and_from, not-false, not-true, not_from_false}
use Rattle.std.proofs.lemmas.List.Sums.{length-filter, count_by-le-length}
use Rattle.za_alpha.specs.Words.{has}
use Rattle.za_order.specs.Labels.{least_free}
use Rattle.za_alpha.proofs.Least.{least-true, least-below}
use Rattle.za_alpha.proofs.Members.{has-filter}
use Rattle.za_order.proofs.Sets.{has-cases}

-- a list without one of its numbers is shorter
length-without : (xs : List ℕ) (k : ℕ) → has xs k ≡ true → length (filter (λ x. not (x == k)) xs) < length xs
length-without [] k h = cc
length-without (x ∷ xs) k h =
    let keep : List ℕ = filter (λ y. not (y == k)) xs in
    let most : length keep ≤ length xs = omega (arith, length-filter (λ y. not (y == k)) xs, count_by-le-length (λ y. not (y == k)) xs) in
    cond_both (not (x == k)) (x ∷ keep) keep (λ v. length v < suc (length xs))
    (λ t. elim (has-cases x k xs h) [
      | inl e ↦ absurd (let z = eq-eqb x k e in let y = not-true (x == k) t in let b : true ≡ false = sym z ∙ y in cc)
      | inr r ↦ let ih = length-without xs k r in omega arith
    ])
    (λ t. omega arith)

-- a list that has each number below n has n elements at least
pub pigeonhole : (n : ℕ) (xs : List ℕ) → ((k : ℕ) → k < n → has xs k ≡ true) → n ≤ length xs
pigeonhole zero xs h = omega arith
pigeonhole (suc n) xs h =
    let s = length-without xs n (h n (omega arith)) in
    let r = pigeonhole n (filter (λ x. not (x == n)) xs) (λ k l.
    has-filter (λ x. not (x == n)) xs k ∙ and_from (not (k == n)) (has xs k) (not_from_false (k == n) (ne_eqb k n (omega arith))) (h k (omega arith))) in
    omega arith

-- the list has all below the least free number
pub least_free-least : (xs : List ℕ) (k : ℕ) → k < least_free xs → has xs k ≡ true
least_free-least xs k l = not-false (has xs k) (least-below (λ k. not (has xs k)) (suc (length xs)) k l)

-- so it is at most the length
pub least_free-le : (xs : List ℕ) → least_free xs ≤ length xs
least_free-le xs = pigeonhole (least_free xs) xs (least_free-least xs)

-- and the list does not have it
pub least_free-free : (xs : List ℕ) → has xs (least_free xs) ≡ false
least_free-free xs = let l = least_free-le xs in not-true (has xs (least_free xs)) (least-true (λ k. not (has xs k)) (suc (length xs)) (omega arith))

-- the length of joined lists
pub length-flat_map-le : (f : ℕ → List ℕ) (k : ℕ) (xs : List ℕ) → ((x : ℕ) → length (f x) ≤ k) → length (flat_map f xs) ≤ length xs * k
length-flat_map-le f k [] h = omega arith
length-flat_map-le f k (x ∷ xs) h =
    let a = h x in
    let b = length-flat_map-le f k xs h in
    omega (arith, length-append (f x) (flat_map f xs))

-- what is kept is no longer
pub length-filter_map-le : (h : ℕ → Option ℕ) (xs : List ℕ) → length (filter_map h xs) ≤ length xs
length-filter_map-le h [] = omega arith
length-filter_map-le h (x ∷ xs) = more (h x) (length-filter_map-le h xs)
  where
    more : (o : Option ℕ) → length (filter_map h xs) ≤ length xs → length (cons_option o (filter_map h xs)) ≤ suc (length xs)
    more None l = omega arith
    more (Some y) l = omega arith

-- a cube as a product
pub cube : (n : ℕ) → n ^ 3 ≡ n * (n * n)
cube n = grind (arith, pow-suc, pow-zero)

-- What lists have, and what a list has that is made of others.
use Rattle.std.proofs.Common.{◌≡◌, ℕ, ◌<◌, Bool, true, false, ◌||◌, ◌⊎◌, inl, inr, List, [], ◌∷◌, ◌++◌, ◌==◌, filter_map, flat_map, map, Option, Some, None}
use Rattle.std.proofs.Common.{refl, sym, ap, subst, ◌∙◌, arith, eqb-true, eq-eqb}
use Rattle.std.specs.List.{range_with_len, list_any, cons_option}
use Rattle.std.proofs.lemmas.Bool.{or_cases, or_left, or_right}
use Rattle.std.proofs.lemmas.List.Folds.{list_any-append}
use Rattle.std.proofs.lemmas.Bool.Decides.{nat_tests}
use Rattle.za_alpha.specs.Words.{has}
use Rattle.za_alpha.proofs.Members.{has-range-below}
use Rattle.za_order.specs.Locals.{is_event}

-- two tests that imply one another are equal
pub same-test : (a b : Bool) → (a ≡ true → b ≡ true) → (b ≡ true → a ≡ true) → a ≡ b
same-test true b f g = sym (f refl)
same-test false true f g = g refl
same-test false false f g = refl

-- what a joined list has
pub has-append : (ps qs : List ℕ) (p : ℕ) → has (ps ++ qs) p ≡ (has ps p || has qs p)
has-append ps qs p = list_any-append (λ q. q == p) ps qs

-- a list of one process has it alone
pub has-single : (p q : ℕ) → has (p ∷ []) q ≡ true → p ≡ q
has-single p q h = elim (or_cases (p == q) false h) [ inl a ↦ eqb-true p q a | inr b ↦ cc ]

-- a list has its only element
pub has-own : (p : ℕ) → has (p ∷ []) p ≡ true
has-own p = or_left (p == p) false (eq-eqb p p refl)

-- a set that has the process of a list of one has p
pub single-has : (p q : ℕ) (xs : List ℕ) → has (p ∷ []) q ≡ true → has xs q ≡ true → has xs p ≡ true
single-has p q xs h k = subst (λ v. has xs v ≡ true) (sym (has-single p q h)) k

-- a list has its first element
pub has-here : (x k : ℕ) (xs : List ℕ) → x ≡ k → has (x ∷ xs) k ≡ true
has-here x k xs e = or_left (x == k) (has xs k) (eq-eqb x k e)

-- and what its rest has
pub has-there : (x k : ℕ) (xs : List ℕ) → has xs k ≡ true → has (x ∷ xs) k ≡ true
has-there x k xs h = or_right (x == k) (has xs k) h

-- and no other
pub has-cases : (x k : ℕ) (xs : List ℕ) → has (x ∷ xs) k ≡ true → (x ≡ k) ⊎ (has xs k ≡ true)
has-cases x k xs h = elim (or_cases (x == k) (has xs k) h) [ inl e ↦ inl (eqb-true x k e) | inr r ↦ inr r ]

-- some element passes the test
pub any-here : (test : ℕ → Bool) (xs : List ℕ) (x : ℕ) → has xs x ≡ true → test x ≡ true → list_any test xs ≡ true
any-here test [] x h t = cc
any-here test (y ∷ xs) x h t =
    elim (has-cases y x xs h) [
      | inl e ↦ or_left (test y) (list_any test xs) (rw e t)
      | inr r ↦ or_right (test y) (list_any test xs) (any-here test xs x r t)
    ]

-- and an element that passes
pub any-where : (test : ℕ → Bool) (xs : List ℕ) → list_any test xs ≡ true → (x : ℕ) × (has xs x ≡ true) × (test x ≡ true)
any-where test [] h = cc
any-where test (y ∷ xs) h =
    elim (or_cases (test y) (list_any test xs) h) [
      | inl t ↦ (y, has-here y y xs refl, t)
      | inr r ↦ let i = any-where test xs r in (i.0, has-there y i.0 xs i.1, i.2)
    ]

-- what a mapped list has
pub has-map : (f : ℕ → ℕ) (xs : List ℕ) (k : ℕ) → has (map f xs) k ≡ list_any (λ x. f x == k) xs
has-map f [] k = refl
has-map f (x ∷ xs) k = ap (λ b. f x == k || b) (has-map f xs k)

-- what joined lists have
pub has-flat_map : (f : ℕ → List ℕ) (xs : List ℕ) (k : ℕ) → has (flat_map f xs) k ≡ list_any (λ x. has (f x) k) xs
has-flat_map f [] k = refl
has-flat_map f (x ∷ xs) k = has-append (f x) (flat_map f xs) k ∙ ap (λ b. has (f x) k || b) (has-flat_map f xs k)

-- what is kept of entries
pub has-filter_map : (f : ℕ → Option ℕ) (xs : List ℕ) (k : ℕ) → has (filter_map f xs) k ≡ list_any (λ x. is_event (f x) k) xs
has-filter_map f [] k = refl
has-filter_map f (x ∷ xs) k = one (f x) (filter_map f xs) ∙ ap (λ b. is_event (f x) k || b) (has-filter_map f xs k)
  where
    one : (o : Option ℕ) (ys : List ℕ) → has (cons_option o ys) k ≡ (is_event o k || has ys k)
    one None ys = refl
    one (Some y) ys = refl

-- a range from 0 has the numbers below its end
pub in-range : (n s : ℕ) → s < n → has (range_with_len 0 n) s ≡ true
in-range n s l = has-range-below n s ∙ grind (arith, nat_tests)

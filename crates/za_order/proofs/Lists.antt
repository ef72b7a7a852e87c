-- Tests of the elements of a list.
use Rattle.std.proofs.Common.{◌≡◌, ℕ, Bool, true, inl, inr, List, [], ◌∷◌, refl, subst}
use Rattle.std.specs.List.{list_all}
use Rattle.std.proofs.lemmas.Bool.{and_parts, and_from}
use Rattle.za_alpha.specs.Words.{has}
use Rattle.za_order.proofs.Sets.{has-cases, has-here, has-there}

-- all pass, if each that the list has does
pub all-from : (test : ℕ → Bool) (xs : List ℕ) → ((x : ℕ) → has xs x ≡ true → test x ≡ true) → list_all test xs ≡ true
all-from test [] h = refl
all-from test (y ∷ ys) h = and_from (test y) (list_all test ys) (h y (has-here y y ys refl)) (all-from test ys (λ x k. h x (has-there y x ys k)))

-- and then each does
pub all-at : (test : ℕ → Bool) (xs : List ℕ) (x : ℕ) → list_all test xs ≡ true → has xs x ≡ true → test x ≡ true
all-at test [] x h k = cc
all-at test (y ∷ ys) x h k =
    let b = and_parts (test y) (list_all test ys) h in
    elim (has-cases y x ys k) [
      | inl e ↦ subst (λ v. test v ≡ true) e b.0
      | inr r ↦ all-at test ys x b.1 r
    ]

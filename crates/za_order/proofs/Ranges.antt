-- Searches through the numbers of a range.
use Rattle.std.proofs.Common.{◌≡◌, ℕ, ◌+◌, ◌<◌, Bool, true, false, ◌||◌, inl, inr, [], ◌∷◌, refl, sym, ap, ◌∙◌, arith}
use Rattle.std.specs.List.{range_with_len, list_any}
use Rattle.std.proofs.lemmas.Bool.{cases_Bool}
use Rattle.std.proofs.lemmas.Bool.Decides.{nat_tests}
use Rattle.std.proofs.lemmas.List.Folds.{list_any-append}
use Rattle.za_alpha.specs.Words.{has}
use Rattle.za_alpha.proofs.Members.{has-range-below, range-below-more}
use Rattle.za_order.proofs.Sets.{any-here, any-where, in-range}

-- what a range from 0 has is below its end
pub range-below : (n k : ℕ) → has (range_with_len 0 n) k ≡ true → k < n
range-below n k h = let e = sym (has-range-below n k) ∙ h in grind (arith, nat_tests)

-- one of a range passes
pub any-at : (test : ℕ → Bool) (n k : ℕ) → k < n → test k ≡ true → list_any test (range_with_len 0 n) ≡ true
any-at test n k l h = any-here test (range_with_len 0 n) k (in-range n k l) h

-- none does
pub any-none : (test : ℕ → Bool) (n : ℕ) → ((k : ℕ) → k < n → test k ≡ false) → list_any test (range_with_len 0 n) ≡ false
any-none test n h =
    elim (cases_Bool (list_any test (range_with_len 0 n))) [
      | inr f ↦ f
      | inl a ↦ let x = any-where test (range_with_len 0 n) a in let z = h x.0 (range-below n x.0 x.1) in let y = x.2 in cc
    ]

-- tests that agree on a range find the same
pub any-same : (f g : ℕ → Bool) (n : ℕ) → ((k : ℕ) → k < n → f k ≡ g k) → list_any f (range_with_len 0 n) ≡ list_any g (range_with_len 0 n)
any-same f g n h =
    elim (cases_Bool (list_any f (range_with_len 0 n))) [
      | inl a ↦ let x = any-where f (range_with_len 0 n) a in a ∙ sym (any-at g n x.0 (range-below n x.0 x.1) (sym (h x.0 (range-below n x.0 x.1)) ∙ x.2))
      | inr a ↦ elim (cases_Bool (list_any g (range_with_len 0 n))) [
        | inl b ↦ let x = any-where g (range_with_len 0 n) b in let z = any-at f n x.0 (range-below n x.0 x.1) (h x.0 (range-below n x.0 x.1) ∙ x.2) in cc
        | inr b ↦ a ∙ sym b
      ]
    ]

-- one number more
pub or-false : (b : Bool) → (b || false) ≡ b
or-false true = refl
or-false false = refl

pub any-more : (test : ℕ → Bool) (n : ℕ) → list_any test (range_with_len 0 (n + 1)) ≡ (list_any test (range_with_len 0 n) || test n)
any-more test n =
    ap (list_any test) (range-below-more n) ∙ list_any-append test (range_with_len 0 n) (n ∷ [])
    ∙ ap (λ b. list_any test (range_with_len 0 n) || b) (or-false (test n))

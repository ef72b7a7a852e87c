-- Lists of copies.
use Rattle.std.proofs.Common.{◌≡◌, ℕ, List, [], ◌∷◌, length, map, replicate, refl, ap, ◌∙◌}

-- what is the same for all is a list of copies
pub same-for-all : {X : Type 0} (f : ℕ → X) (one : X) (xs : List ℕ) → ((x : ℕ) → one ≡ f x) → replicate (length xs) one ≡ map f xs
same-for-all f one [] same = refl
same-for-all f one (x ∷ xs) same = ap (λ y. y ∷ replicate (length xs) one) (same x) ∙ ap (λ rest. f x ∷ rest) (same-for-all f one xs same)

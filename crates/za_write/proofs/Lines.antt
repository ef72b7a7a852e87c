-- Lines and words, one more at a time.
use Rattle.std.proofs.Common.{◌≡◌, ℕ, ◌+◌, Bool, true, false, cond, List, [], ◌∷◌, ◌++◌, map, ap, sym, ◌∙◌, refl, append_assoc}
use Rattle.std.specs.List.{range_with_len}
use Rattle.std.proofs.lemmas.List.{append-nil, map-append}
use Rattle.std.proofs.lemmas.List.Concat.{flat_map-append}
use Rattle.za_alpha.proofs.Members.{range-below-more}
use Rattle.za_text.specs.Printed.{spaced, line, text_of}

-- the lines of one number more
pub text_of-more : (f : ℕ → List (List ℕ)) (n : ℕ) → text_of (map f (range_with_len 0 (n + 1))) ≡ text_of (map f (range_with_len 0 n)) ++ line (f n)
text_of-more f n =
    ap (λ ns. text_of (map f ns)) (range-below-more n) ∙ ap text_of (map-append f (range_with_len 0 n) (n ∷ []))
    ∙ flat_map-append line (map f (range_with_len 0 n)) (f n ∷ []) ∙ ap (λ ys. text_of (map f (range_with_len 0 n)) ++ ys) (append-nil (line (f n)))

-- words after words
pub spaced-append : (us vs : List (List ℕ)) → spaced (us ++ vs) ≡ spaced us ++ spaced vs
spaced-append us vs = flat_map-append (λ (w : List ℕ). 32 ∷ w) us vs

one_or_none : (f : ℕ → List ℕ) (b : Bool) (n : ℕ) → spaced (map f (cond b (n ∷ []) [])) ≡ cond b (spaced (f n ∷ [])) []
one_or_none f true n = refl
one_or_none f false n = refl

-- the words of numbers, and one more that may be there
pub spaced-more : (f : ℕ → List ℕ) (ns : List ℕ) (b : Bool) (n : ℕ)
    → spaced (map f (ns ++ cond b (n ∷ []) [])) ≡ spaced (map f ns) ++ cond b (spaced (f n ∷ [])) []
spaced-more f ns b n =
    ap spaced (map-append f ns (cond b (n ∷ []) [])) ∙ spaced-append (map f ns) (map f (cond b (n ∷ []) []))
    ∙ ap (λ ys. spaced (map f ns) ++ ys) (one_or_none f b n)

-- a text after one more piece
pub one-more : (old mid new done more piece : List ℕ) → mid ≡ old ++ done → new ≡ mid ++ piece → more ≡ done ++ piece → new ≡ old ++ more
one-more old mid new done more piece a b c = b ∙ ap (λ xs. xs ++ piece) a ∙ append_assoc old done piece ∙ ap (λ xs. old ++ xs) (sym c)

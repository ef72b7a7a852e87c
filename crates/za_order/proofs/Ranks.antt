-- How many letters before a position pass a test.
use Rattle.std.proofs.Common.{◌≡◌, ℕ, zero, suc, ◌+◌, ◌<◌, ◌≤◌, Bool, true, false, cond, inl, inr, List, [], ◌∷◌, length, take, filter, slice_index, refl, sym}
use Rattle.std.proofs.Common.{ap, ◌∙◌, arith, length-append, take-suc}
use Rattle.std.proofs.lemmas.Bool.{cases_Bool, cases_eq, cond-true, cond-false}
use Rattle.std.proofs.lemmas.List.Elements.{filter-append}

-- the number of letters before the position i that pass
abbrev pub rank : (ℕ → Bool) → List ℕ → ℕ → ℕ
rank t w i = length (filter t (take i w))

-- the rank after one letter
rank-step : (t : ℕ → Bool) (w : List ℕ) (i : ℕ) → i < length w → rank t w (suc i) ≡ rank t w i + length (filter t (slice_index w i ∷ []))
rank-step t w i h = rw (take-suc w i 0 h) (simp (filter-append, length-append))

-- a letter that passes adds one
pub rank-next : (t : ℕ → Bool) (w : List ℕ) (i : ℕ) → i < length w → t (slice_index w i) ≡ true → rank t w (suc i) ≡ suc (rank t w i)
rank-next t w i l h =
    let s = rank-step t w i l in
    let e = ap (λ x. length x) (cond-true (t (slice_index w i)) (slice_index w i ∷ []) [] h) in
    omega arith

-- any other adds none
pub rank-skip : (t : ℕ → Bool) (w : List ℕ) (i : ℕ) → i < length w → t (slice_index w i) ≡ false → rank t w (suc i) ≡ rank t w i
rank-skip t w i l h =
    let s = rank-step t w i l in
    let e = ap (λ x. length x) (cond-false (t (slice_index w i)) (slice_index w i ∷ []) [] h) in
    omega arith

-- ranks do not fall
pub rank-mono : (t : ℕ → Bool) (w : List ℕ) (i j : ℕ) → i ≤ j → j ≤ length w → rank t w i ≤ rank t w j
rank-mono t w i zero l m = let e : i ≡ 0 = omega arith in rw e (omega arith)
rank-mono t w i (suc j) l m =
    elim (cases_eq i (suc j)) [
      | inl e ↦ rw e (omega arith)
      | inr ne ↦ let ih = rank-mono t w i j (omega arith) (omega arith) in let s = rank-step t w j (omega arith) in omega arith
    ]

-- a letter that passes raises the rank after it
pub rank-less : (t : ℕ → Bool) (w : List ℕ) (i j : ℕ) → i < j → j ≤ length w → t (slice_index w i) ≡ true → rank t w i < rank t w j
rank-less t w i j l m h =
    let n = rank-next t w i (omega arith) h in
    let o = rank-mono t w (suc i) j l m in
    omega arith

-- what a test keeps has the letter at its rank
pub rank-read : (t : ℕ → Bool) (w : List ℕ) (i : ℕ) → i < length w → t (slice_index w i) ≡ true →
    (rank t w i < length (filter t w)) × (slice_index (filter t w) (rank t w i) ≡ slice_index w i)
rank-read t [] i l h = absurd (omega arith)
rank-read t (x ∷ xs) zero l h = rw (cond-true (t x) (x ∷ filter t xs) (filter t xs) h) (omega arith, refl)
rank-read t (x ∷ xs) (suc i) l h =
    let ih = rank-read t xs i (omega arith) h in
    elim (t x) as (λ b. (length (cond b (x ∷ filter t (take i xs)) (filter t (take i xs))) < length (cond b (x ∷ filter t xs) (filter t xs)))
    × (slice_index (cond b (x ∷ filter t xs) (filter t xs)) (length (cond b (x ∷ filter t (take i xs)) (filter t (take i xs)))) ≡ slice_index xs i)) [
      | true ↦ (let a = ih.0 in omega arith, ih.1)
      | false ↦ ih
    ]

-- the first letters that a test keeps
rank-take : (t : ℕ → Bool) (w : List ℕ) (i : ℕ) → take (rank t w i) (filter t w) ≡ filter t (take i w)
rank-take t [] zero = refl
rank-take t [] (suc i) = refl
rank-take t (x ∷ xs) zero = refl
rank-take t (x ∷ xs) (suc i) =
    let ih = rank-take t xs i in
    elim (t x) as (λ b. take (length (cond b (x ∷ filter t (take i xs)) (filter t (take i xs)))) (cond b (x ∷ filter t xs) (filter t xs))
    ≡ cond b (x ∷ filter t (take i xs)) (filter t (take i xs))) [
      | true ↦ ap (λ v. x ∷ v) ih
      | false ↦ ih
    ]

-- the finer of two tests alone decides
filter-filter : (s t : ℕ → Bool) → ((x : ℕ) → s x ≡ true → t x ≡ true) → (w : List ℕ) → filter s (filter t w) ≡ filter s w
filter-filter s t sub [] = refl
filter-filter s t sub (x ∷ xs) =
    let ih = filter-filter s t sub xs in
    elim (cases_Bool (t x)) [
      | inl h ↦ rw (cond-true (t x) (x ∷ filter t xs) (filter t xs) h) (ap (λ v. cond (s x) (x ∷ v) v) ih)
      | inr h ↦ elim (cases_Bool (s x)) [
        | inl k ↦ absurd (let c = sub x k in cc)
        | inr k ↦ rw (cond-false (t x) (x ∷ filter t xs) (filter t xs) h) (ih ∙ sym (cond-false (s x) (x ∷ filter s xs) (filter s xs) k))
      ]
    ]

-- a rank within what another test keeps
pub rank-rank : (s t : ℕ → Bool) → ((x : ℕ) → s x ≡ true → t x ≡ true) → (w : List ℕ) (i : ℕ) → rank s (filter t w) (rank t w i) ≡ rank s w i
rank-rank s t sub w i = ap (λ v. length (filter s v)) (rank-take t w i) ∙ ap (λ v. length v) (filter-filter s t sub (take i w))

-- each position of what a test keeps comes from one of the word
pub rank-find : (t : ℕ → Bool) (w : List ℕ) (r : ℕ) → r < length (filter t w) → (j : ℕ) × (j < length w) × (t (slice_index w j) ≡ true) × (rank t w j ≡ r)
rank-find t [] r l = absurd (omega arith)
rank-find t (x ∷ xs) r l = go (t x) refl (rank-find t xs) r l
  where
    further : (b : Bool) (j r : ℕ) → t x ≡ b → rank t xs j ≡ r → rank t (x ∷ xs) (suc j) ≡ length (cond b (x ∷ filter t (take j xs)) (filter t (take j xs)))
    further b j r e k = ap (λ v. length (cond v (x ∷ filter t (take j xs)) (filter t (take j xs)))) e

    go : (b : Bool) → t x ≡ b → ((r : ℕ) → r < length (filter t xs) → (j : ℕ) × (j < length xs) × (t (slice_index xs j) ≡ true) × (rank t xs j ≡ r)) →
        (r : ℕ) → r < length (cond b (x ∷ filter t xs) (filter t xs)) → (j : ℕ) × (j < suc (length xs)) × (t (slice_index (x ∷ xs) j) ≡ true)
        × (rank t (x ∷ xs) j ≡ r)
    go true e ih zero m = (0, omega arith, e, refl)
    go true e ih (suc r) m = let k = ih r (omega arith) in (suc k.0, (let a = k.1 in omega arith), k.2, further true k.0 r e k.3 ∙ ap suc k.3)
    go false e ih r m = let k = ih r m in (suc k.0, (let a = k.1 in omega arith), k.2, further false k.0 r e k.3 ∙ k.3)

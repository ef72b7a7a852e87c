-- The subword at a set of positions, split at a down-closed part of it.
use Rattle.std.proofs.Common.{◌≡◌, ℕ, zero, suc, ◌<◌, Bool, true, false, not, ◌&&◌, inl, inr, List, [], ◌∷◌, ◌++◌, slice_index, refl, sym, ap, ◌∙◌, arith}
use Rattle.std.proofs.Common.{append_assoc, append-nil}
use Rattle.std.proofs.lemmas.Bool.{cases_Bool, cond-true, cond-false, and_left, and_right, and_from, not_from_true, not_from_false}
use Rattle.std.proofs.lemmas.List.Elements.{filter-append}
use Rattle.za_alpha.specs.Words.{has, projection, AreEquivalent}
use Rattle.za_order.specs.Views.{participants, Chain}
use Rattle.za_order.specs.Words.{subword}
use Rattle.za_order.specs.Laws.{SubwordsSplit}
use Rattle.za_order.proofs.Chains.{chain-same}

module _ (loc : ℕ → List ℕ) (w : List ℕ) where
  -- the projection of a subword, one position further
  pub projection-takes : (p : ℕ) (test : ℕ → Bool) (n : ℕ) → test n ≡ true → has (participants loc w n) p ≡ true →
      projection loc p (subword w test (suc n)) ≡ projection loc p (subword w test n) ++ slice_index w n ∷ []
  projection-takes p test n t h =
      rw (cond-true (test n) (subword w test n ++ slice_index w n ∷ []) (subword w test n) t)
      (filter-append (λ a. has (loc a) p) (subword w test n) (slice_index w n ∷ [])
      ∙ ap (λ x. projection loc p (subword w test n) ++ x) (cond-true (has (loc (slice_index w n)) p) (slice_index w n ∷ []) [] h))

  -- a position that does not pass adds nothing
  pub projection-skips : (p : ℕ) (test : ℕ → Bool) (n : ℕ) → test n ≡ false → projection loc p (subword w test (suc n)) ≡ projection loc p (subword w test n)
  projection-skips p test n t = ap (λ x. projection loc p x) (cond-false (test n) (subword w test n ++ slice_index w n ∷ []) (subword w test n) t)

  -- nor does one of another process
  pub projection-others : (p : ℕ) (test : ℕ → Bool) (n : ℕ) → has (participants loc w n) p ≡ false →
      projection loc p (subword w test (suc n)) ≡ projection loc p (subword w test n)
  projection-others p test n h =
      elim (cases_Bool (test n)) [
        | inl t ↦
            rw (cond-true (test n) (subword w test n ++ slice_index w n ∷ []) (subword w test n) t)
            (filter-append (λ a. has (loc a) p) (subword w test n) (slice_index w n ∷ [])
            ∙ ap (λ x. projection loc p (subword w test n) ++ x) (cond-false (has (loc (slice_index w n)) p) (slice_index w n ∷ []) [] h)
            ∙ append-nil (projection loc p (subword w test n)))
        | inr t ↦ projection-skips p test n t
      ]

  -- the projection is empty where none of the events of p passes
  projection-empty : (p : ℕ) (test : ℕ → Bool) (n : ℕ) → ((i : ℕ) → i < n → has (participants loc w i) p ≡ true → test i ≡ false) →
      projection loc p (subword w test n) ≡ []
  projection-empty p test zero h = refl
  projection-empty p test (suc n) h =
      let rest = projection-empty p test n (λ i l t. h i (omega arith) t) in
      elim (cases_Bool (has (participants loc w n) p)) [
        | inl t ↦ projection-skips p test n (h n (omega arith) t) ∙ rest
        | inr t ↦ projection-others p test n t ∙ rest
      ]

  -- the projection splits at the part
  pub projection-split : (a b : ℕ → Bool) → ((i : ℕ) → a i ≡ true → b i ≡ true) →
      ((i j : ℕ) → b i ≡ true → a j ≡ true → Chain (participants loc w) i j → a i ≡ true) → (p n : ℕ) →
      projection loc p (subword w b n) ≡ projection loc p (subword w a n) ++ projection loc p (subword w (λ i. b i && not (a i)) n)
  projection-split a b sub down p zero = refl
  projection-split a b sub down p (suc n) =
      let ih = projection-split a b sub down p n in
      let c : ℕ → Bool = λ i. b i && not (a i) in
      elim (cases_Bool (has (participants loc w n) p)) [
        | inr t ↦ rw (projection-others p a n t, projection-others p b n t, projection-others p c n t) ih
        | inl t ↦ elim (cases_Bool (a n)) [
          | inl an ↦
              let nothing = projection-empty p c (suc n) (λ i l h.
              gone a b i (λ bi. down i n bi an (chain-same (participants loc w) p i n (omega arith) h t))) in
              let below = projection-empty p c n (λ i l h.
              gone a b i (λ bi. down i n bi an (chain-same (participants loc w) p i n (omega arith) h t))) in
              let same : projection loc p (subword w b n) ≡ projection loc p (subword w a n) = ih ∙ ap (λ x. projection loc p (subword w a n) ++ x) below
              ∙ append-nil (projection loc p (subword w a n)) in
              projection-takes p b n (sub n an) t ∙ ap (λ x. x ++ slice_index w n ∷ []) same ∙ sym (projection-takes p a n an t)
              ∙ sym (ap (λ x. projection loc p (subword w a (suc n)) ++ x) nothing ∙ append-nil (projection loc p (subword w a (suc n))))
          | inr an ↦ elim (cases_Bool (b n)) [
            | inl bn ↦
                let cn : c n ≡ true = and_from (b n) (not (a n)) bn (not_from_false (a n) an) in
                projection-takes p b n bn t ∙ ap (λ x. x ++ slice_index w n ∷ []) ih
                ∙ append_assoc (projection loc p (subword w a n)) (projection loc p (subword w c n)) (slice_index w n ∷ [])
                ∙ sym (ap₂' (projection-skips p a n an) (projection-takes p c n cn t))
            | inr bn ↦
                let cn : c n ≡ false = and_left (b n) (not (a n)) bn in
                projection-skips p b n bn ∙ ih ∙ sym (ap₂' (projection-skips p a n an) (projection-skips p c n cn))
          ]
        ]
      ]
    where
      ap₂' : {x x' y y' : List ℕ} → x ≡ x' → y ≡ y' → x ++ y ≡ x' ++ y'
      ap₂' e f = cc

      gone : (a b : ℕ → Bool) (i : ℕ) → (b i ≡ true → a i ≡ true) → (b i && not (a i)) ≡ false
      gone a b i h = elim (cases_Bool (b i)) [ inl t ↦ and_right (b i) (not (a i)) (not_from_true (a i) (h t)) | inr t ↦ and_left (b i) (not (a i)) t ]

-- the same of the words, for a part that is down-closed within the whole
pub subwords-split : (loc : ℕ → List ℕ) (w : List ℕ) (part whole : ℕ → Bool) → ((i : ℕ) → part i ≡ true → whole i ≡ true) →
    ((i j : ℕ) → whole i ≡ true → part j ≡ true → Chain (participants loc w) i j → part i ≡ true) → (n : ℕ) →
    AreEquivalent loc (subword w whole n) (subword w part n ++ subword w (λ i. whole i && not (part i)) n)
subwords-split loc w part whole sub down n p =
    projection-split loc w part whole sub down p n ∙ sym (filter-append (λ x. has (loc x) p) (subword w part n) (subword w (λ i. whole i && not (part i)) n))

-- in the words of the law
pub subwords_split : SubwordsSplit
subwords_split loc w n part whole sub down p = subwords-split loc w part whole sub (λ i j wi pj c. down i j pj c) n p

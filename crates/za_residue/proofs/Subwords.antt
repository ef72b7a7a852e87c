-- Subwords at sets of positions.
use Rattle.std.proofs.Common.{◌≡◌, ℕ, zero, suc, ◌<◌, ◌≤◌, Bool, true, false, inl, inr, List, [], ◌∷◌, ◌++◌, length, take, slice_index, refl, sym, ap, subst}
use Rattle.std.proofs.Common.{◌∙◌, arith, take-suc}
use Rattle.std.proofs.lemmas.Bool.{cases_Bool, cond-true, cond-false}
use Rattle.std.proofs.lemmas.List.Elements.{All-push}
use Rattle.za_alpha.specs.Words.{IsWord}
use Rattle.za_order.specs.Words.{subword}
use Rattle.za_order.proofs.Participants.{IsOver}

-- one position further
pub subword-takes : (w : List ℕ) (test : ℕ → Bool) (n : ℕ) → test n ≡ true → subword w test (suc n) ≡ subword w test n ++ slice_index w n ∷ []
subword-takes w test n t = cond-true (test n) (subword w test n ++ slice_index w n ∷ []) (subword w test n) t

pub subword-skips : (w : List ℕ) (test : ℕ → Bool) (n : ℕ) → test n ≡ false → subword w test (suc n) ≡ subword w test n
subword-skips w test n t = cond-false (test n) (subword w test n ++ slice_index w n ∷ []) (subword w test n) t

-- words and sets that agree below n
pub subword-same : (v w : List ℕ) (s t : ℕ → Bool) (n : ℕ) → ((i : ℕ) → i < n → slice_index v i ≡ slice_index w i) → ((i : ℕ) → i < n → s i ≡ t i) →
    subword v s n ≡ subword w t n
subword-same v w s t zero h k = refl
subword-same v w s t (suc n) h k =
    let rest = subword-same v w s t n (λ i l. h i (omega arith)) (λ i l. k i (omega arith)) in
    let letter = h n (omega arith) in
    let test = k n (omega arith) in cc

-- the empty set
pub subword-none : (w : List ℕ) (test : ℕ → Bool) (n : ℕ) → ((i : ℕ) → i < n → test i ≡ false) → subword w test n ≡ []
subword-none w test zero h = refl
subword-none w test (suc n) h = subword-skips w test n (h n (omega arith)) ∙ subword-none w test n (λ i l. h i (omega arith))

-- all positions
pub subword-all : (w : List ℕ) (test : ℕ → Bool) (n : ℕ) → n ≤ length w → ((i : ℕ) → i < n → test i ≡ true) → subword w test n ≡ take n w
subword-all w test zero l h = refl
subword-all w test (suc n) l h =
    subword-takes w test n (h n (omega arith))
    ∙ ap (λ v. v ++ slice_index w n ∷ []) (subword-all w test n (omega arith) (λ i k. h i (omega arith)))
    ∙ sym (take-suc w n 0 (omega arith))

-- a subword of a word over an alphabet is one
pub subword-word : (loc : ℕ → List ℕ) (letters processes : ℕ) (w : List ℕ) → IsOver loc letters processes w → (test : ℕ → Bool) (n : ℕ) → n ≤ length w →
    IsWord letters (subword w test n)
subword-word loc letters processes w over test zero l = λ i d h. absurd (omega arith)
subword-word loc letters processes w over test (suc n) l =
    let rest = subword-word loc letters processes w over test n (omega arith) in
    elim (cases_Bool (test n)) [
      | inl t ↦ subst (λ v. IsWord letters v) (sym (subword-takes w test n t))
          (All-push (λ a. a < letters) (subword w test n) (slice_index w n) rest (over.letter n (omega arith)))
      | inr f ↦ subst (λ v. IsWord letters v) (sym (subword-skips w test n f)) rest
    ]

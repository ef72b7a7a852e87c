-- Lists of desks, as they are made.
use Rattle.std.proofs.Common.{◌≡◌, ℕ, zero, suc, ◌+◌, ◌<◌, List, [], ◌∷◌, ◌++◌, length, get_or, sym, ap, ◌∙◌, subst, arith}
use Rattle.za_hall.specs.Halls.{DeskState}
use Rattle.za_hall.specs.Halls.{HallState}
use Rattle.za_hall.specs.Steps.{blank_note, blank_notes}
use Rattle.za_hall.specs.Halls.{IsNewDesk}

zero_plus : (q : ℕ) → 0 + q ≡ q
zero_plus q = omega arith

pub blank_rest : (i n : ℕ) → 0 < n → (m : ℕ) × (n ≡ m + 1) × (blank_notes i n ≡ blank_note i ∷ blank_notes (i + 1) m)
blank_rest i zero l = absurd (omega arith)
blank_rest i (suc m) l = (m, omega arith, let f : suc i ≡ i + 1 = omega arith in ap (λ j. blank_note i ∷ blank_notes j m) f)

pub fresh_snoc : (h : HallState) (ds : List DeskState) (x : DeskState) (n : ℕ) → length ds ≡ n →
    ((p : ℕ) (d : DeskState) → p < length ds → IsNewDesk h p (get_or ds p d)) → IsNewDesk h n x → (p : ℕ) (d : DeskState) → p < length (ds ++ x ∷ [])
    → IsNewDesk h p (get_or (ds ++ x ∷ []) p d)
fresh_snoc h ds x n len all its p d lt = subst (λ (i : ℕ). IsNewDesk h i (get_or (ds ++ x ∷ []) p d)) (zero_plus p)
    (go ds 0 p (λ q l. subst (λ (i : ℕ). IsNewDesk h i (get_or ds q d)) (sym (zero_plus q)) (all q d l)) (zero_plus (length ds) ∙ len) lt)
  where
    go : (es : List DeskState) (k q : ℕ) → ((i : ℕ) → i < length es → IsNewDesk h (k + i) (get_or es i d)) → k + length es ≡ n → q < length (es ++ x ∷ [])
        → IsNewDesk h (k + q) (get_or (es ++ x ∷ []) q d)
    go [] k zero f e l = subst (λ (i : ℕ). IsNewDesk h i x) (sym e) its
    go [] k (suc q) f e l = absurd (omega arith)
    go (y ∷ es) k zero f e l = f 0 (omega arith)
    go (y ∷ es) k (suc q) f e l = let move : (i : ℕ) → suc k + i ≡ k + suc i = λ i. omega arith in
        subst (λ (i : ℕ). IsNewDesk h i (get_or (es ++ x ∷ []) q d)) (move q) (go es (suc k) q
        (λ i m. subst (λ (z : ℕ). IsNewDesk h z (get_or es i d)) (sym (move i)) (f (suc i) (omega arith))) (omega arith) (omega arith))

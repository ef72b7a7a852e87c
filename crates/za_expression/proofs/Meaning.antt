-- The meaning as a relation, which proofs take apart.
use Rattle.std.proofs.Common.{◌≡◌, ℕ, zero, suc, ◌≤◌, Bool, true, false, ◌&&◌, ◌⊎◌, inl, inr, List, [], ◌∷◌, ◌++◌, ◌==◌, length, refl, sym, ap, subst, arith}
use Rattle.std.proofs.Common.{eqb-true, eq-eqb, length-append}
use Rattle.std.proofs.lemmas.Bool.{or_cases, or_left, or_right, and_parts, and_from}
use Rattle.za_expression.specs.Plain.{Plain, One, Occurrence, Sequence, Or, Star, is_empty, is_letter, cut, repeats, matches}

pub data Repeats (P : List ℕ → Type 0) : List ℕ → Type 0 where
  NoMore : Repeats P []
  More : {w : List ℕ} → (u v : List ℕ) → P u → Repeats P v → w ≡ u ++ v → Repeats P w

-- a word in two parts
pub record Parts (P Q : List ℕ → Type 0) (w : List ℕ) : Type 0 where
  pub left : List ℕ
  pub right : List ℕ
  pub is : w ≡ left ++ right
  pub in_left : P left
  pub in_right : Q right

abbrev pub Means : (ℕ → ℕ) → Plain → List ℕ → Type 0
Means letter One w = w ≡ []
Means letter (Occurrence p) w = w ≡ letter p ∷ []
Means letter (Sequence a b) w = Parts (λ u. Means letter a u) (λ v. Means letter b v) w
Means letter (Or a b) w = Means letter a w ⊎ Means letter b w
Means letter (Star a) w = Repeats (λ u. Means letter a u) w

-- cuts
pub cut_parts : (p q : List ℕ → Bool) (w : List ℕ) → cut p q w ≡ true → Parts (λ u. p u ≡ true) (λ v. q v ≡ true) w
cut_parts p q [] h = let b = and_parts (p []) (q []) h in record { left = []; right = []; is = refl; in_left = b.0; in_right = b.1 }
cut_parts p q (a ∷ w) h =
    elim (or_cases (p [] && q (a ∷ w)) (cut (λ u. p (a ∷ u)) q w) h) [
      | inl l ↦ let b = and_parts (p []) (q (a ∷ w)) l in record { left = []; right = a ∷ w; is = refl; in_left = b.0; in_right = b.1 }
      | inr r ↦ let k = cut_parts (λ u. p (a ∷ u)) q w r in
          record { left = a ∷ k.left; right = k.right; is = ap (λ x. a ∷ x) k.is; in_left = k.in_left; in_right = k.in_right }
    ]

pub cut_from : (p q : List ℕ → Bool) (u v : List ℕ) → p u ≡ true → q v ≡ true → cut p q (u ++ v) ≡ true
cut_from p q [] [] h k = and_from (p []) (q []) h k
cut_from p q [] (a ∷ v) h k = or_left (p [] && q (a ∷ v)) (cut (λ u. p (a ∷ u)) q v) (and_from (p []) (q (a ∷ v)) h k)
cut_from p q (a ∷ u) v h k = or_right (p [] && q (a ∷ (u ++ v))) (cut (λ x. p (a ∷ x)) q (u ++ v)) (cut_from (λ x. p (a ∷ x)) q u v h k)

pub repeats_to : (p : List ℕ → Bool) (n : ℕ) (w : List ℕ) → repeats p n w ≡ true → Repeats (λ u. p u ≡ true) w
repeats_to p n [] h = NoMore
repeats_to p zero (a ∷ w) h = cc
repeats_to p (suc n) (a ∷ w) h =
    let k = cut_parts (λ u. p (a ∷ u)) (λ v. repeats p n v) w h in
    More (a ∷ k.left) k.right k.in_left (repeats_to p n k.right k.in_right) (ap (λ x. a ∷ x) k.is)

pub repeats_from : (p : List ℕ → Bool) (w : List ℕ) (n : ℕ) → length w ≤ n → Repeats (λ u. p u ≡ true) w → repeats p n w ≡ true
repeats_from p w n l NoMore = refl
repeats_from p w n l (More [] v h r e) = subst (λ x. repeats p n x ≡ true) (sym e) (repeats_from p v n (subst (λ x. length x ≤ n) e l) r)
repeats_from p w zero l (More (a ∷ u) v h r e) = absurd (let k : length (a ∷ (u ++ v)) ≤ 0 = subst (λ x. length x ≤ 0) e l in omega arith)
repeats_from p w (suc n) l (More (a ∷ u) v h r e) =
    let k : length (a ∷ (u ++ v)) ≤ suc n = subst (λ x. length x ≤ suc n) e l in
    let s = length-append u v in
    subst (λ x. repeats p (suc n) x ≡ true) (sym e)
    (cut_from (λ x. p (a ∷ x)) (λ x. repeats p n x) u v h (repeats_from p v n (omega arith) r))

-- repetitions of one set are repetitions of a larger one
pub repeats_more : (P Q : List ℕ → Type 0) → ((u : List ℕ) → P u → Q u) → (w : List ℕ) → Repeats P w → Repeats Q w
repeats_more P Q f w NoMore = NoMore
repeats_more P Q f w (More u v h r e) = More u v (f u h) (repeats_more P Q f v r) e

pub means : (letter : ℕ → ℕ) (e : Plain) (w : List ℕ) → matches letter e w ≡ true → Means letter e w
means letter One [] h = refl
means letter One (a ∷ w) h = cc
means letter (Occurrence p) [] h = cc
means letter (Occurrence p) (a ∷ []) h = let b = and_parts (a == letter p) true h in ap (λ x. x ∷ []) (eqb-true a (letter p) b.0)
means letter (Occurrence p) (a ∷ b ∷ w) h = let b = and_parts (a == letter p) false h in absurd (let z = b.1 in cc)
means letter (Sequence a b) w h =
    let k = cut_parts (λ u. matches letter a u) (λ v. matches letter b v) w h in
    record { left = k.left; right = k.right; is = k.is; in_left = means letter a k.left k.in_left; in_right = means letter b k.right k.in_right }
means letter (Or a b) w h =
    elim (or_cases (matches letter a w) (matches letter b w) h) [ inl l ↦ inl (means letter a w l) | inr r ↦ inr (means letter b w r) ]
means letter (Star a) w h =
    repeats_more (λ u. matches letter a u ≡ true) (λ u. Means letter a u) (λ u k. means letter a u k) w
    (repeats_to (λ u. matches letter a u) (length w) w h)

pub matches_from : (letter : ℕ → ℕ) (e : Plain) (w : List ℕ) → Means letter e w → matches letter e w ≡ true
matches_from letter One w h = subst (λ x. is_empty x ≡ true) (sym h) refl
matches_from letter (Occurrence p) w h =
    subst (λ x. is_letter (letter p) x ≡ true) (sym h) (and_from (letter p == letter p) true (eq-eqb (letter p) (letter p) refl) refl)
matches_from letter (Sequence a b) w h =
    subst (λ x. cut (λ u. matches letter a u) (λ v. matches letter b v) x ≡ true) (sym h.is)
    (cut_from (λ u. matches letter a u) (λ v. matches letter b v) h.left h.right (matches_from letter a h.left h.in_left)
    (matches_from letter b h.right h.in_right))
matches_from letter (Or a b) w (inl l) = or_left (matches letter a w) (matches letter b w) (matches_from letter a w l)
matches_from letter (Or a b) w (inr r) = or_right (matches letter a w) (matches letter b w) (matches_from letter b w r)
matches_from letter (Star a) w h =
    repeats_from (λ u. matches letter a u) w (length w) (omega arith)
    (repeats_more (λ u. Means letter a u) (λ u. matches letter a u ≡ true) (λ u k. matches_from letter a u k) w h)

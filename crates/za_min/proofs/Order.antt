-- Shortlex order is total and transitive, so a least word is one, and longer words keep the order.
use Rattle.std.proofs.Common.{◌≡◌, ℕ, ◌<◌, true, false, ◌&&◌, ◌⊎◌, inl, inr, List, [], ◌∷◌, ◌++◌, ◌==◌, length, nat_lt, refl, sym, subst, ◌∙◌, arith, eqb-true}
use Rattle.std.proofs.Common.{ltb-true, eq-eqb, length-append}
use Rattle.std.proofs.lemmas.Bool.{cases_order, and_parts, and_from, or_cases, or_left, or_right, lt-ltb, false_from_ne_true}
use Rattle.za_min.specs.Shortlex.{is_lower, comes_before, IsLeastWord}

pub lower-cons : (a b : ℕ) (u v : List ℕ) → is_lower (a ∷ u) (b ∷ v) ≡ true → (a < b) ⊎ ((a ≡ b) × (is_lower u v ≡ true))
lower-cons a b u v h =
    elim (or_cases (nat_lt a b) (a == b && is_lower u v) h) [
      | inl l ↦ inl (ltb-true a b l)
      | inr r ↦ let k = and_parts (a == b) (is_lower u v) r in inr (eqb-true a b k.0, k.1)
    ]

pub lower-less : (a b : ℕ) (u v : List ℕ) → a < b → is_lower (a ∷ u) (b ∷ v) ≡ true
lower-less a b u v l = or_left (nat_lt a b) (a == b && is_lower u v) (lt-ltb a b l)

pub lower-same : (a b : ℕ) (u v : List ℕ) → a ≡ b → is_lower u v ≡ true → is_lower (a ∷ u) (b ∷ v) ≡ true
lower-same a b u v e h = or_right (nat_lt a b) (a == b && is_lower u v) (and_from (a == b) (is_lower u v) (eq-eqb a b e) h)

lower-total : (u v : List ℕ) → length u ≡ length v → (u ≡ v) ⊎ ((is_lower u v ≡ true) ⊎ (is_lower v u ≡ true))
lower-total [] [] e = inl refl
lower-total [] (b ∷ v) e = absurd (omega arith)
lower-total (a ∷ u) [] e = absurd (omega arith)
lower-total (a ∷ u) (b ∷ v) e =
    elim (cases_order a b) [
      | inr o ↦ elim o [ inl l ↦ inr (inl (lower-less a b u v l)) | inr g ↦ inr (inr (lower-less b a v u g)) ]
      | inl s ↦ elim (lower-total u v (omega arith)) [
        | inl t ↦ inl (cc)
        | inr o ↦ elim o [ inl l ↦ inr (inl (lower-same a b u v s l)) | inr g ↦ inr (inr (lower-same b a v u (sym s) g)) ]
      ]
    ]

lower-trans : (u v w : List ℕ) → is_lower u v ≡ true → is_lower v w ≡ true → is_lower u w ≡ true
lower-trans [] v w h k = cc
lower-trans (a ∷ u) [] w h k = cc
lower-trans (a ∷ u) (b ∷ v) [] h k = cc
lower-trans (a ∷ u) (b ∷ v) (c ∷ w) h k =
    elim (lower-cons a b u v h) [
      | inl l ↦ elim (lower-cons b c v w k) [ inl m ↦ lower-less a c u w (omega arith) | inr m ↦ let e = m.0 in lower-less a c u w (omega arith) ]
      | inr l ↦ elim (lower-cons b c v w k)
          [ inl m ↦ let e = l.0 in lower-less a c u w (omega arith) | inr m ↦ lower-same a c u w (l.0 ∙ m.0) (lower-trans u v w l.1 m.1) ]
    ]

pub before-cases : (u v : List ℕ) → comes_before u v ≡ true → (length u < length v) ⊎ ((length u ≡ length v) × (is_lower u v ≡ true))
before-cases u v h =
    elim (or_cases (nat_lt (length u) (length v)) (length u == length v && is_lower u v) h) [
      | inl l ↦ inl (ltb-true (length u) (length v) l)
      | inr r ↦ let k = and_parts (length u == length v) (is_lower u v) r in inr (eqb-true (length u) (length v) k.0, k.1)
    ]

pub before-shorter : (u v : List ℕ) → length u < length v → comes_before u v ≡ true
before-shorter u v l = or_left (nat_lt (length u) (length v)) (length u == length v && is_lower u v) (lt-ltb (length u) (length v) l)

pub before-lower : (u v : List ℕ) → length u ≡ length v → is_lower u v ≡ true → comes_before u v ≡ true
before-lower u v e h = or_right (nat_lt (length u) (length v)) (length u == length v && is_lower u v)
    (and_from (length u == length v) (is_lower u v) (eq-eqb (length u) (length v) e) h)

pub before-trans : (u v w : List ℕ) → comes_before u v ≡ true → comes_before v w ≡ true → comes_before u w ≡ true
before-trans u v w h k =
    elim (before-cases u v h) [
      | inl l ↦ elim (before-cases v w k) [ inl m ↦ before-shorter u w (omega arith) | inr m ↦ let e = m.0 in before-shorter u w (omega arith) ]
      | inr l ↦ elim (before-cases v w k)
          [ inl m ↦ let e = l.0 in before-shorter u w (omega arith) | inr m ↦ before-lower u w (l.0 ∙ m.0) (lower-trans u v w l.1 m.1) ]
    ]

pub before-total : (u v : List ℕ) → (u ≡ v) ⊎ ((comes_before u v ≡ true) ⊎ (comes_before v u ≡ true))
before-total u v =
    elim (cases_order (length u) (length v)) [
      | inr o ↦ elim o [ inl l ↦ inr (inl (before-shorter u v l)) | inr g ↦ inr (inr (before-shorter v u g)) ]
      | inl e ↦ elim (lower-total u v e) [
        | inl s ↦ inl s
        | inr o ↦ elim o [ inl l ↦ inr (inl (before-lower u v e l)) | inr g ↦ inr (inr (before-lower v u (sym e) g)) ]
      ]
    ]

pub before-same : (u v : List ℕ) → comes_before u v ≡ false → comes_before v u ≡ false → u ≡ v
before-same u v h k = elim (before-total u v) [ inl e ↦ e | inr o ↦ elim o [ inl l ↦ cc | inr g ↦ cc ] ]

-- what comes before u comes before what u comes before
pub not-before : (l u w : List ℕ) → comes_before u w ≡ true → comes_before l w ≡ false → comes_before l u ≡ false
not-before l u w h k = false_from_ne_true (comes_before l u) (λ t. let e = before-trans l u w t h in cc)

pub least_word-unique : (P : List ℕ → Type 0) (u v : List ℕ) → IsLeastWord P u → IsLeastWord P v → u ≡ v
least_word-unique P u v a b = before-same u v (b.least u a.holds) (a.least v b.holds)

lower-not-self : (u : List ℕ) → is_lower u u ≡ true → ⊥
lower-not-self [] h = cc
lower-not-self (a ∷ u) h = elim (lower-cons a a u u h) [ inl l ↦ omega arith | inr r ↦ lower-not-self u r.1 ]

pub before-not-self : (u : List ℕ) → comes_before u u ≡ true → ⊥
before-not-self u h = elim (before-cases u u h) [ inl l ↦ omega arith | inr r ↦ lower-not-self u r.1 ]

pub before-not-back : (u v : List ℕ) → comes_before u v ≡ true → comes_before v u ≡ false
before-not-back u v h = false_from_ne_true (comes_before v u) (λ k. before-not-self u (before-trans u v u h k))

pub lower-more : (u v x y : List ℕ) → length u ≡ length v → is_lower u v ≡ true → is_lower (u ++ x) (v ++ y) ≡ true
lower-more [] v x y e h = cc
lower-more (a ∷ u) [] x y e h = cc
lower-more (a ∷ u) (b ∷ v) x y e h =
    elim (lower-cons a b u v h) [
      | inl l ↦ lower-less a b (u ++ x) (v ++ y) l
      | inr r ↦ lower-same a b (u ++ x) (v ++ y) r.0
          (lower-more u v x y (omega arith) r.1)
    ]

lower-last : (u : List ℕ) (a b : ℕ) → a < b → is_lower (u ++ a ∷ []) (u ++ b ∷ []) ≡ true
lower-last [] a b l = lower-less a b [] [] l
lower-last (c ∷ u) a b l = lower-same c c (u ++ a ∷ []) (u ++ b ∷ []) refl (lower-last u a b l)

pub before-more : (u v : List ℕ) (a b : ℕ) → comes_before u v ≡ true → comes_before (u ++ a ∷ []) (v ++ b ∷ []) ≡ true
before-more u v a b h =
    let lu = length-append u (a ∷ []) in
    let lv = length-append v (b ∷ []) in
    elim (before-cases u v h) [
      | inl l ↦ before-shorter (u ++ a ∷ []) (v ++ b ∷ []) (omega arith)
      | inr r ↦ let e = r.0 in before-lower (u ++ a ∷ []) (v ++ b ∷ []) (omega arith) (lower-more u v (a ∷ []) (b ∷ []) r.0 r.1)
    ]

pub before-last : (u : List ℕ) (a b : ℕ) → a < b → comes_before (u ++ a ∷ []) (u ++ b ∷ []) ≡ true
before-last u a b l = before-lower (u ++ a ∷ []) (u ++ b ∷ []) (let x = length-append u (a ∷ []) in let y = length-append u (b ∷ []) in omega arith)
    (lower-last u a b l)

pub before-nil : (u : List ℕ) (a : ℕ) → comes_before [] (u ++ a ∷ []) ≡ true
before-nil u a = before-shorter [] (u ++ a ∷ []) (let x = length-append u (a ∷ []) in omega arith)

-- at most: not before
pub not-before-trans : (u v w : List ℕ) → comes_before v u ≡ false → comes_before w v ≡ false → comes_before w u ≡ false
not-before-trans u v w h k =
    false_from_ne_true (comes_before w u) (λ t. elim (before-total u v) [
      | inl e ↦ let z : comes_before w v ≡ true = subst (λ x. comes_before w x ≡ true) e t in cc
      | inr o ↦ elim o [ inl l ↦ let z = before-trans w u v t l in cc | inr g ↦ cc ]
    ])

pub not-before-more : (u v : List ℕ) (a : ℕ) → comes_before u v ≡ false → comes_before (u ++ a ∷ []) (v ++ a ∷ []) ≡ false
not-before-more u v a h =
    elim (before-total u v) [
      | inl e ↦ false_from_ne_true (comes_before (u ++ a ∷ []) (v ++ a ∷ []))
          (λ t. before-not-self (v ++ a ∷ []) (subst (λ x. comes_before (x ++ a ∷ []) (v ++ a ∷ []) ≡ true) e t))
      | inr o ↦ elim o [ inl l ↦ cc | inr g ↦ before-not-back (v ++ a ∷ []) (u ++ a ∷ []) (before-more v u a a g) ]
    ]

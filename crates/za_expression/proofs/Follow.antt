-- A place's rests: the lists of places that may stand after it, up to the end of a marked word.
use Rattle.std.proofs.Common.{◌≡◌, ℕ, ◌<◌, ◌≤◌, true, ◌&&◌, ◌||◌, ◌⊎◌, inl, inr, List, [], ◌∷◌, ◌++◌, refl, sym, ap, subst, ◌∙◌, arith, eqb-true, eq-eqb}
use Rattle.std.proofs.lemmas.Bool.{or_cases, or_left, or_right, and_parts, and_from}
use Rattle.za_expression.specs.Plain.{Plain, One, Occurrence, Sequence, Or, Star}
use Rattle.za_expression.specs.Following.{nullable, is_first, is_last, follows}
use Rattle.za_expression.specs.Private.Ordered.{Within}
use Rattle.za_expression.proofs.Meaning.{Repeats, NoMore, More, Parts, Means}

-- w is in the set of marked words
abbrev pub Marked : Plain → List ℕ → Type 0
Marked e w = Means (λ q. q) e w

abbrev pub After : Plain → ℕ → List ℕ → Type 0
After One p w = ⊥
After (Occurrence q) p w = (q ≡ p) × (w ≡ [])
After (Sequence a b) p w = Parts (λ u. After a p u) (λ v. Marked b v) w ⊎ After b p w
After (Or a b) p w = After a p w ⊎ After b p w
After (Star a) p w = Parts (λ u. After a p u) (λ v. Repeats (λ x. Marked a x) v) w

-- the empty word
repeats_empty : (P : List ℕ → Type 0) → Repeats P []
repeats_empty P = NoMore

pub nullable_from : (e : Plain) (w : List ℕ) → Marked e w → w ≡ [] → nullable e ≡ true
nullable_from One w h z = refl
nullable_from (Occurrence p) w h z = cc
nullable_from (Sequence a b) w h z =
    let k : h.left ++ h.right ≡ [] = sym h.is ∙ z in
    let l : h.left ≡ [] = left_empty h.left h.right k in
    let r : h.right ≡ [] = right_empty h.left h.right k in
    and_from (nullable a) (nullable b) (nullable_from a h.left h.in_left l) (nullable_from b h.right h.in_right r)
  where
    left_empty : (u v : List ℕ) → u ++ v ≡ [] → u ≡ []
    left_empty [] v e = refl
    left_empty (a ∷ u) v e = cc

    right_empty : (u v : List ℕ) → u ++ v ≡ [] → v ≡ []
    right_empty [] v e = e
    right_empty (a ∷ u) v e = cc
nullable_from (Or a b) w (inl h) z = or_left (nullable a) (nullable b) (nullable_from a w h z)
nullable_from (Or a b) w (inr h) z = or_right (nullable a) (nullable b) (nullable_from b w h z)
nullable_from (Star a) w h z = refl

pub nullable_to : (e : Plain) → nullable e ≡ true → Marked e []
nullable_to One h = refl
nullable_to (Occurrence p) h = cc
nullable_to (Sequence a b) h =
    let k = and_parts (nullable a) (nullable b) h in
    record { left = []; right = []; is = refl; in_left = nullable_to a k.0; in_right = nullable_to b k.1 }
nullable_to (Or a b) h = elim (or_cases (nullable a) (nullable b) h) [ inl l ↦ inl (nullable_to a l) | inr r ↦ inr (nullable_to b r) ]
nullable_to (Star a) h = NoMore

-- where places lie
pub within_order : (low : ℕ) (e : Plain) (high : ℕ) → Within low e high → low ≤ high
within_order low One high h = h
within_order low (Occurrence p) high h = let a = h.0 in let b = h.1 in omega arith
within_order low (Sequence a b) high h = let x = within_order low a h.0 h.1 in let y = within_order h.0 b high h.2 in omega arith
within_order low (Or a b) high h = let x = within_order low a h.0 h.1 in let y = within_order h.0 b high h.2 in omega arith
within_order low (Star a) high h = within_order low a high h

-- p lies from low on and below high
pub record Lies (low p high : ℕ) : Type 0 where
  pub from : low ≤ p
  pub below : p < high

lies_left : (low m high p : ℕ) → m ≤ high → Lies low p m → Lies low p high
lies_left low m high p h l = let a = l.from in let b = l.below in record { from = omega arith; below = omega arith }

lies_right : (low m high p : ℕ) → low ≤ m → Lies m p high → Lies low p high
lies_right low m high p h l = let a = l.from in let b = l.below in record { from = omega arith; below = omega arith }

pub apart : (low m high p : ℕ) → Lies low p m → Lies m p high → ⊥
apart low m high p l r = let a = l.below in let b = r.from in omega arith

pub first_lies : (low : ℕ) (e : Plain) (high p : ℕ) → Within low e high → is_first e p ≡ true → Lies low p high
first_lies low One high p w h = cc
first_lies low (Occurrence q) high p w h = let e = eqb-true q p h in let a = w.0 in let b = w.1 in record { from = omega arith; below = omega arith }
first_lies low (Sequence a b) high p w h =
    elim (or_cases (is_first a p) (nullable a && is_first b p) h) [
      | inl l ↦ lies_left low w.0 high p (within_order w.0 b high w.2) (first_lies low a w.0 p w.1 l)
      | inr r ↦ lies_right low w.0 high p (within_order low a w.0 w.1) (first_lies w.0 b high p w.2 (and_parts (nullable a) (is_first b p) r).1)
    ]
first_lies low (Or a b) high p w h =
    elim (or_cases (is_first a p) (is_first b p) h) [
      | inl l ↦ lies_left low w.0 high p (within_order w.0 b high w.2) (first_lies low a w.0 p w.1 l)
      | inr r ↦ lies_right low w.0 high p (within_order low a w.0 w.1) (first_lies w.0 b high p w.2 r)
    ]
first_lies low (Star a) high p w h = first_lies low a high p w h

pub last_lies : (low : ℕ) (e : Plain) (high p : ℕ) → Within low e high → is_last e p ≡ true → Lies low p high
last_lies low One high p w h = cc
last_lies low (Occurrence q) high p w h = let e = eqb-true q p h in let a = w.0 in let b = w.1 in record { from = omega arith; below = omega arith }
last_lies low (Sequence a b) high p w h =
    elim (or_cases (is_last b p) (nullable b && is_last a p) h) [
      | inr l ↦ lies_left low w.0 high p (within_order w.0 b high w.2) (last_lies low a w.0 p w.1 (and_parts (nullable b) (is_last a p) l).1)
      | inl r ↦ lies_right low w.0 high p (within_order low a w.0 w.1) (last_lies w.0 b high p w.2 r)
    ]
last_lies low (Or a b) high p w h =
    elim (or_cases (is_last a p) (is_last b p) h) [
      | inl l ↦ lies_left low w.0 high p (within_order w.0 b high w.2) (last_lies low a w.0 p w.1 l)
      | inr r ↦ lies_right low w.0 high p (within_order low a w.0 w.1) (last_lies w.0 b high p w.2 r)
    ]
last_lies low (Star a) high p w h = last_lies low a high p w h

-- both places of a step lie within
pub follows_lie : (low : ℕ) (e : Plain) (high p q : ℕ) → Within low e high → follows e p q ≡ true → Lies low p high × Lies low q high
follows_lie low One high p q w h = cc
follows_lie low (Occurrence r) high p q w h = cc
follows_lie low (Sequence a b) high p q w h =
    let oa = within_order low a w.0 w.1 in
    let ob = within_order w.0 b high w.2 in
    elim (or_cases (follows a p q) (follows b p q || (is_last a p && is_first b q)) h) [
      | inl l ↦ let k = follows_lie low a w.0 p q w.1 l in (lies_left low w.0 high p ob k.0, lies_left low w.0 high q ob k.1)
      | inr r ↦ elim (or_cases (follows b p q) (is_last a p && is_first b q) r) [
        | inl l ↦ let k = follows_lie w.0 b high p q w.2 l in (lies_right low w.0 high p oa k.0, lies_right low w.0 high q oa k.1)
        | inr s ↦ let k = and_parts (is_last a p) (is_first b q) s in
            (lies_left low w.0 high p ob (last_lies low a w.0 p w.1 k.0), lies_right low w.0 high q oa (first_lies w.0 b high q w.2 k.1))
      ]
    ]
follows_lie low (Or a b) high p q w h =
    let oa = within_order low a w.0 w.1 in
    let ob = within_order w.0 b high w.2 in
    elim (or_cases (follows a p q) (follows b p q) h) [
      | inl l ↦ let k = follows_lie low a w.0 p q w.1 l in (lies_left low w.0 high p ob k.0, lies_left low w.0 high q ob k.1)
      | inr l ↦ let k = follows_lie w.0 b high p q w.2 l in (lies_right low w.0 high p oa k.0, lies_right low w.0 high q oa k.1)
    ]
follows_lie low (Star a) high p q w h =
    elim (or_cases (follows a p q) (is_last a p && is_first a q) h) [
      | inl l ↦ follows_lie low a high p q w l
      | inr s ↦ let k = and_parts (is_last a p) (is_first a q) s in (last_lies low a high p w k.0, first_lies low a high q w k.1)
    ]

pub after_lies : (low : ℕ) (e : Plain) (high p : ℕ) (w : List ℕ) → Within low e high → After e p w → Lies low p high
after_lies low One high p u w h = elim h [ ]
after_lies low (Occurrence q) high p u w h = let e = h.0 in let a = w.0 in let b = w.1 in record { from = omega arith; below = omega arith }
after_lies low (Sequence a b) high p u w (inl h) = lies_left low w.0 high p (within_order w.0 b high w.2) (after_lies low a w.0 p h.left w.1 h.in_left)
after_lies low (Sequence a b) high p u w (inr h) = lies_right low w.0 high p (within_order low a w.0 w.1) (after_lies w.0 b high p u w.2 h)
after_lies low (Or a b) high p u w (inl h) = lies_left low w.0 high p (within_order w.0 b high w.2) (after_lies low a w.0 p u w.1 h)
after_lies low (Or a b) high p u w (inr h) = lies_right low w.0 high p (within_order low a w.0 w.1) (after_lies w.0 b high p u w.2 h)
after_lies low (Star a) high p u w h = after_lies low a high p h.left w h.in_left

-- the first nonempty one of several words
pub record FirstOf (P : List ℕ → Type 0) (p : ℕ) (w : List ℕ) : Type 0 where
  pub front : List ℕ
  pub back : List ℕ
  pub is : w ≡ front ++ back
  pub in_front : P (p ∷ front)
  pub in_back : Repeats P back

pub first_of : (P : List ℕ → Type 0) (p : ℕ) (w m : List ℕ) → Repeats P m → m ≡ p ∷ w → FirstOf P p w
first_of P p w m NoMore z = cc
first_of P p w m (More [] v h r e) z = first_of P p w v r (sym e ∙ z)
first_of P p w m (More (q ∷ u) v h r e) z =
    let k : q ∷ (u ++ v) ≡ p ∷ w = sym e ∙ z in
    let q_is : q ≡ p = cc in
    let w_is : w ≡ u ++ v = cc in
    record { front = u; back = v; is = w_is; in_front = subst (λ x. P (x ∷ u)) q_is h; in_back = r }

-- a marked word begins with a first place
pub first_to : (e : Plain) (p : ℕ) (w m : List ℕ) → Marked e m → m ≡ p ∷ w → (is_first e p ≡ true) × After e p w
first_to One p w m h z = cc
first_to (Occurrence q) p w m h z =
    let k : q ∷ [] ≡ p ∷ w = sym h ∙ z in
    let a : q ≡ p = cc in let b : w ≡ [] = cc in (eq-eqb q p a, (a, b))
first_to (Sequence a b) p w m h z =
    elim h.left as (λ x. Marked a x → x ++ h.right ≡ p ∷ w → (is_first (Sequence a b) p ≡ true) × After (Sequence a b) p w) [
      | [] ↦ λ x k.
          let r = first_to b p w h.right h.in_right k in
          (or_right (is_first a p) (nullable a && is_first b p) (and_from (nullable a) (is_first b p) (nullable_from a [] x refl) r.0), inr r.1)
      | q ∷ u ↦ λ x k.
          let q_is : q ≡ p = cc in
          let w_is : w ≡ u ++ h.right = cc in
          let r = first_to a p u (q ∷ u) x (ap (λ s. s ∷ u) q_is) in
          (or_left (is_first a p) (nullable a && is_first b p) r.0, inl (record { left = u; right = h.right; is = w_is; in_left = r.1; in_right = h.in_right }))
    ] h.in_left (sym h.is ∙ z)
first_to (Or a b) p w m (inl h) z = let r = first_to a p w m h z in (or_left (is_first a p) (is_first b p) r.0, inl r.1)
first_to (Or a b) p w m (inr h) z = let r = first_to b p w m h z in (or_right (is_first a p) (is_first b p) r.0, inr r.1)
first_to (Star a) p w m h z =
    let k = first_of (λ x. Marked a x) p w m h z in
    let r = first_to a p k.front (p ∷ k.front) k.in_front refl in
    (r.0, record { left = k.front; right = k.back; is = k.is; in_left = r.1; in_right = k.in_back })

pub first_from : (low : ℕ) (e : Plain) (high p : ℕ) (w : List ℕ) → Within low e high → is_first e p ≡ true → After e p w → Marked e (p ∷ w)
first_from low One high p u w h k = elim k [ ]
first_from low (Occurrence q) high p u w h k = let a = k.0 in let b = k.1 in (let g : p ∷ u ≡ q ∷ [] = cc in g)
first_from low (Sequence a b) high p u w h (inl k) =
    elim (or_cases (is_first a p) (nullable a && is_first b p) h) [
      | inl l ↦ record {
        left = p ∷ k.left;
        right = k.right;
        is = ap (λ x. p ∷ x) k.is;
        in_left = first_from low a w.0 p k.left w.1 l k.in_left;
        in_right =
            k.in_right;
      }
      | inr r ↦ absurd (apart low w.0 high p (after_lies low a w.0 p k.left w.1 k.in_left)
          (first_lies w.0 b high p w.2 (and_parts (nullable a) (is_first b p) r).1))
    ]
first_from low (Sequence a b) high p u w h (inr k) =
    elim (or_cases (is_first a p) (nullable a && is_first b p) h) [
      | inl l ↦ absurd (apart low w.0 high p (first_lies low a w.0 p w.1 l) (after_lies w.0 b high p u w.2 k))
      | inr r ↦ let s = and_parts (nullable a) (is_first b p) r in
          record { left = []; right = p ∷ u; is = refl; in_left = nullable_to a s.0; in_right = first_from w.0 b high p u w.2 s.1 k }
    ]
first_from low (Or a b) high p u w h (inl k) =
    elim (or_cases (is_first a p) (is_first b p) h) [
      | inl l ↦ inl (first_from low a w.0 p u w.1 l k)
      | inr r ↦ absurd (apart low w.0 high p (after_lies low a w.0 p u w.1 k) (first_lies w.0 b high p w.2 r))
    ]
first_from low (Or a b) high p u w h (inr k) =
    elim (or_cases (is_first a p) (is_first b p) h) [
      | inl l ↦ absurd (apart low w.0 high p (first_lies low a w.0 p w.1 l) (after_lies w.0 b high p u w.2 k))
      | inr r ↦ inr (first_from w.0 b high p u w.2 r k)
    ]
first_from low (Star a) high p u w h k =
    More (p ∷ k.left) k.right (first_from low a high p k.left w h k.in_left) k.in_right (ap (λ x. p ∷ x) k.is)

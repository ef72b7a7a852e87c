-- Equivalence is swapping.
use Rattle.std.proofs.Common.{◌≡◌, ℕ, true, false, inl, inr, List, [], ◌∷◌, ◌++◌, ◌==◌, IsTrue, refl, sym, ap, subst, ◌∙◌, eqb-true, eq-eqb, ◌<◌}
use Rattle.std.proofs.lemmas.Bool.{or_cases, or_left, or_right, cases_Bool, cond-true, cond-false, not-true, not_from_false}
use Rattle.std.proofs.lemmas.List.Elements.{filter-append, All-head, All-tail, All-cons, All-append, All-nil, All-same}
use Rattle.std.specs.List.{All}
use Rattle.za_alpha.specs.Words.{has, meets, independent, IsAlphabet, IsWord, projection, AreEquivalent, IsSwap, Swaps, Done, Then}
use Rattle.za_alpha.specs.Laws.{EquivalenceIsSwapping}

-- each letter of the word has a process
abbrev HaveProcesses : (ℕ → List ℕ) → List ℕ → Type 0
HaveProcesses loc w = All (λ a. (p : ℕ) × IsTrue (has (loc a) p)) w

pub meets-elim : (ps qs : List ℕ) → meets ps qs ≡ true → (p : ℕ) × (has ps p ≡ true) × (has qs p ≡ true)
meets-elim [] qs h = cc
meets-elim (p ∷ ps) qs h =
    elim (or_cases (has qs p) (meets ps qs) h) [
      | inl a ↦ (p, or_left (p == p) (has ps p) (eq-eqb p p refl), a)
      | inr b ↦ let r = meets-elim ps qs b in (r.0, or_right (p == r.0) (has ps r.0) r.1, r.2)
    ]

pub meets-intro : (ps qs : List ℕ) (p : ℕ) → has ps p ≡ true → has qs p ≡ true → meets ps qs ≡ true
meets-intro [] qs p h k = cc
meets-intro (q ∷ ps) qs p h k =
    elim (or_cases (q == p) (has ps p) h) [
      | inl a ↦ or_left (has qs q) (meets ps qs) (rw (eqb-true q p a) k)
      | inr b ↦ or_right (has qs q) (meets ps qs) (meets-intro ps qs p b k)
    ]

-- what holds of each letter of a joined word
pub all-left : (P : ℕ → Type 0) (xs ys : List ℕ) → All P (xs ++ ys) → All P xs
all-left P [] ys h = All-nil P
all-left P (x ∷ xs) ys h = All-cons P x xs (All-head P x (xs ++ ys) h) (all-left P xs ys (All-tail P x (xs ++ ys) h))

pub all-right : (P : ℕ → Type 0) (xs ys : List ℕ) → All P (xs ++ ys) → All P ys
all-right P [] ys h = h
all-right P (x ∷ xs) ys h = all-right P xs ys (All-tail P x (xs ++ ys) h)

module _ (loc : ℕ → List ℕ) where
  pub apart-flip : (a b : ℕ) → independent loc a b ≡ true → independent loc b a ≡ true
  apart-flip a b h =
      elim (cases_Bool (meets (loc b) (loc a))) [
        | inl t ↦ let r = meets-elim (loc b) (loc a) t in let k = meets-intro (loc a) (loc b) r.0 r.2 r.1 in let n = not-true (meets (loc a) (loc b)) h in cc
        | inr f ↦ not_from_false (meets (loc b) (loc a)) f
      ]

  -- a process that takes one of two independent letters does not take the other
  pub apart-skips : (a b p : ℕ) → independent loc a b ≡ true → has (loc a) p ≡ true → has (loc b) p ≡ false
  apart-skips a b p h k =
      elim (cases_Bool (has (loc b) p)) [
        | inl t ↦ let m = meets-intro (loc a) (loc b) p k t in let n = not-true (meets (loc a) (loc b)) h in cc
        | inr f ↦ f
      ]

  pub seen-take : (p a : ℕ) (w : List ℕ) → has (loc a) p ≡ true → projection loc p (a ∷ w) ≡ a ∷ projection loc p w
  seen-take p a w h = cond-true (has (loc a) p) (a ∷ projection loc p w) (projection loc p w) h

  pub seen-skip : (p a : ℕ) (w : List ℕ) → has (loc a) p ≡ false → projection loc p (a ∷ w) ≡ projection loc p w
  seen-skip p a w h = cond-false (has (loc a) p) (a ∷ projection loc p w) (projection loc p w) h

  seen-two : (p a b : ℕ) (w : List ℕ) → independent loc a b ≡ true → projection loc p (a ∷ b ∷ w) ≡ projection loc p (b ∷ a ∷ w)
  seen-two p a b w h =
      elim (cases_Bool (has (loc a) p)) [
        | inl t ↦
            let f = apart-skips a b p h t in
            seen-take p a (b ∷ w) t ∙ ap (λ x. a ∷ x) (seen-skip p b w f) ∙ sym (seen-skip p b (a ∷ w) f ∙ seen-take p a w t)
        | inr f ↦
            seen-skip p a (b ∷ w) f ∙ sym (
            elim (cases_Bool (has (loc b) p)) [
              | inl t ↦ seen-take p b (a ∷ w) t ∙ ap (λ x. b ∷ x) (seen-skip p a w f) ∙ sym (seen-take p b w t)
              | inr g ↦ seen-skip p b (a ∷ w) g ∙ seen-skip p a w f ∙ sym (seen-skip p b w g)
            ])
      ]

  pub swap-sound : (u v : List ℕ) → IsSwap loc u v → AreEquivalent loc u v
  swap-sound u v s p =
      ap (projection loc p) s.from ∙ filter-append (λ a. has (loc a) p) s.before (s.left ∷ s.right ∷ s.after)
      ∙ ap (λ x. projection loc p s.before ++ x) (seen-two p s.left s.right s.after s.apart)
      ∙ sym (filter-append (λ a. has (loc a) p) s.before (s.right ∷ s.left ∷ s.after)) ∙ sym (ap (projection loc p) s.to)

  pub swaps-sound : {u v : List ℕ} → Swaps loc u v → AreEquivalent loc u v
  swaps-sound Done p = refl
  swaps-sound (Then {u = u} {v = v} {w = w} s t) p = swap-sound u v s p ∙ swaps-sound t p

  pub swaps-trans : {u v w : List ℕ} → Swaps loc u v → Swaps loc v w → Swaps loc u w
  swaps-trans Done t = t
  swaps-trans (Then s r) t = Then s (swaps-trans r t)

  swap-back : (u v : List ℕ) → IsSwap loc u v → IsSwap loc v u
  swap-back u v s = record {
    before = s.before;
    left = s.right;
    right = s.left;
    after = s.after;
    apart = apart-flip s.left s.right s.apart;
    from = s.to;
    to =
        s.from;
  }

  pub swaps-back : {u v : List ℕ} → Swaps loc u v → Swaps loc v u
  swaps-back Done = Done
  swaps-back (Then {u = u} {v = v} {w = w} s t) = swaps-trans (swaps-back t) (Then (swap-back u v s) Done)

  pub swaps-cons : (a : ℕ) {u v : List ℕ} → Swaps loc u v → Swaps loc (a ∷ u) (a ∷ v)
  swaps-cons a Done = Done
  swaps-cons a (Then s t) =
      Then (record {
        before = a ∷ s.before;
        left = s.left;
        right = s.right;
        after = s.after;
        apart = s.apart;
        from = ap (λ x. a ∷ x) s.from;
        to =
            ap (λ x. a ∷ x) s.to;
      }) (swaps-cons a t)

  -- if each process of the letter sees it first, swaps bring it to the front
  front : (a q : ℕ) (w : List ℕ) → has (loc a) q ≡ true → ((p : ℕ) → has (loc a) p ≡ true → (rest : List ℕ) × (projection loc p w ≡ a ∷ rest)) →
      (rest : List ℕ) × Swaps loc w (a ∷ rest)
  front a q [] h f = let k = f q h in absurd (let e = k.1 in cc)
  front a q (b ∷ w) h f =
      elim (cases_Bool (meets (loc a) (loc b))) [
        | inl t ↦
            let m = meets-elim (loc a) (loc b) t in
            let k = f m.0 m.1 in
            let e : b ∷ projection loc m.0 w ≡ a ∷ k.0 = sym (seen-take m.0 b w m.2) ∙ k.1 in
            let same : b ≡ a = cc in
            (w, subst (λ x. Swaps loc (b ∷ w) (x ∷ w)) same Done)
        | inr n ↦
            let ind : independent loc a b ≡ true = not_from_false (meets (loc a) (loc b)) n in
            let r = front a q w h (λ p t. let k = f p t in (k.0, sym (seen-skip p b w (apart-skips a b p ind t)) ∙ k.1)) in (
              b ∷ r.0,
              swaps-trans (swaps-cons b r.1)
                  (Then (record { before = []; left = b; right = a; after = r.0; apart = apart-flip a b ind; from = refl; to = refl }) Done),
            )
      ]

  pub equivalent-cancel : (a : ℕ) (u v : List ℕ) → AreEquivalent loc (a ∷ u) (a ∷ v) → AreEquivalent loc u v
  equivalent-cancel a u v e p =
      elim (cases_Bool (has (loc a) p)) [
        | inl t ↦ let k : a ∷ projection loc p u ≡ a ∷ projection loc p v = sym (seen-take p a u t) ∙ e p ∙ seen-take p a v t in cc
        | inr f ↦ sym (seen-skip p a u f) ∙ e p ∙ seen-skip p a v f
      ]

  pub swap-all : (P : ℕ → Type 0) (u v : List ℕ) → IsSwap loc u v → All P u → All P v
  swap-all P u v s h =
      let k = All-same P (s.before ++ s.left ∷ s.right ∷ s.after) u (sym s.from) h in
      let r = all-right P s.before (s.left ∷ s.right ∷ s.after) k in
      let l = All-head P s.left (s.right ∷ s.after) r in
      let t = All-tail P s.left (s.right ∷ s.after) r in
      All-same P v (s.before ++ s.right ∷ s.left ∷ s.after) s.to
      (All-append P s.before (s.right ∷ s.left ∷ s.after) (all-left P s.before (s.left ∷ s.right ∷ s.after) k)
      (All-cons P s.right (s.left ∷ s.after) (All-head P s.right s.after t) (All-cons P s.left s.after l (All-tail P s.right s.after t))))

  pub swaps-all : (P : ℕ → Type 0) {u v : List ℕ} → Swaps loc u v → All P u → All P v
  swaps-all P Done h = h
  swaps-all P (Then {u = u} {v = v} {w = w} s t) h = swaps-all P t (swap-all P u v s h)

  pub equivalent-complete : (u v : List ℕ) → HaveProcesses loc u → HaveProcesses loc v → AreEquivalent loc u v → Swaps loc u v
  equivalent-complete [] [] hu hv e = Done
  equivalent-complete [] (b ∷ v) hu hv e =
      let q = All-head (λ a. (p : ℕ) × IsTrue (has (loc a) p)) b v hv in
      absurd (let k : [] ≡ b ∷ projection loc q.0 v = e q.0 ∙ seen-take q.0 b v q.1 in cc)
  equivalent-complete (a ∷ u) v hu hv e =
      let q = All-head (λ a. (p : ℕ) × IsTrue (has (loc a) p)) a u hu in
      let r = front a q.0 v q.1 (λ p t. (projection loc p u, sym (e p) ∙ seen-take p a u t)) in
      let k = equivalent-cancel a u r.0 (λ p. e p ∙ swaps-sound r.1 p) in
      let h = All-tail (λ a. (p : ℕ) × IsTrue (has (loc a) p)) a r.0 (swaps-all (λ a. (p : ℕ) × IsTrue (has (loc a) p)) r.1 hv) in
      swaps-trans (swaps-cons a (equivalent-complete u r.0 (All-tail (λ a. (p : ℕ) × IsTrue (has (loc a) p)) a u hu) h k)) (swaps-back r.1)

-- a word over an alphabet has processes
word-processes : (loc : ℕ → List ℕ) (letters processes : ℕ) (w : List ℕ) → IsAlphabet loc letters processes → IsWord letters w → HaveProcesses loc w
word-processes loc letters processes [] h k = All-nil (λ a. (p : ℕ) × IsTrue (has (loc a) p))
word-processes loc letters processes (a ∷ w) h k =
    All-cons (λ a. (p : ℕ) × IsTrue (has (loc a) p)) a w (h.some a (All-head (λ a. a < letters) a w k))
    (word-processes loc letters processes w h (All-tail (λ a. a < letters) a w k))

pub equivalence_is_swapping : EquivalenceIsSwapping
equivalence_is_swapping loc letters processes u v h ku kv =
    (equivalent-complete loc u v (word-processes loc letters processes u h ku) (word-processes loc letters processes v h kv), swaps-sound loc)

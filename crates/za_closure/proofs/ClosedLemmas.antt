-- A language is trace-closed exactly if it has no break, and over a minimal automaton exactly if it has
-- every diamond.
use Rattle.std.proofs.Common.{◌≡◌, ◌≢◌, ℕ, ◌<◌, Bool, true, false, ◌⊎◌, inl, inr, List, ◌∷◌, ◌++◌, refl, sym, ap, ◌∙◌, arith}
use Rattle.std.proofs.lemmas.Bool.{cases_eq, cases_order}
use Rattle.std.proofs.lemmas.List.Elements.{All-head, All-tail, All-cons, All-append, All-same}
use Rattle.za_alpha.specs.Words.{independent, IsAlphabet, IsWord, IsSwap, Swaps, Done, Then}
use Rattle.za_alpha.proofs.Swaps.{apart-flip, swap-sound, swap-all, all-left, all-right, equivalence_is_swapping}
use Rattle.za_dfa.specs.Automata.{Automaton, IsTotal, walk, is_accepted, IsTraceClosed, HasDiamonds}
use Rattle.za_dfa.proofs.Diamonds.{walk-append, walk-below}
use Rattle.za_min.specs.Minimal.{IsMinimal}
use Rattle.za_closure.specs.Breaks.{Break, IsBreak}
use Rattle.za_closure.specs.Laws.{ClosedIsUnbroken, ClosedIsDiamonds}

-- two answers are equal or not
same_or_not : (a b : Bool) → (a ≡ b) ⊎ (a ≢ b)
same_or_not true true = inl refl
same_or_not true false = inr (λ e. cc)
same_or_not false true = inr (λ e. cc)
same_or_not false false = inl refl

module _ (loc : ℕ → List ℕ) (d : Automaton) where
  ordered-swap : ((k : Break) → IsBreak loc d k → ⊥) → (x : List ℕ) (a b : ℕ) (y : List ℕ) → IsWord d.letters x → IsWord d.letters y → a < b → b < d.letters →
      independent loc a b ≡ true →
      is_accepted d (x ++ a ∷ b ∷ y) ≡ is_accepted d (x ++ b ∷ a ∷ y)
  ordered-swap free x a b y hx hy ab bl ind =
      elim (same_or_not (is_accepted d (x ++ a ∷ b ∷ y)) (is_accepted d (x ++ b ∷ a ∷ y))) [
        | inl e ↦ e
        | inr n ↦ absurd (free (record { before = x; left = a; right = b; after = y })
            (record { before_word = hx; after_word = hy; order = ab; letter = bl; apart = ind; tells = n }))
      ]

  swap-accepted : ((k : Break) → IsBreak loc d k → ⊥) → (u v : List ℕ) → IsSwap loc u v → IsWord d.letters u → is_accepted d u ≡ is_accepted d v
  swap-accepted free u v s h =
      let k = All-same (λ c. c < d.letters) (s.before ++ s.left ∷ s.right ∷ s.after) u (sym s.from) h in
      let r = all-right (λ c. c < d.letters) s.before (s.left ∷ s.right ∷ s.after) k in
      let bw = all-left (λ c. c < d.letters) s.before (s.left ∷ s.right ∷ s.after) k in
      let l = All-head (λ c. c < d.letters) s.left (s.right ∷ s.after) r in
      let t = All-tail (λ c. c < d.letters) s.left (s.right ∷ s.after) r in
      let rl = All-head (λ c. c < d.letters) s.right s.after t in
      let aw = All-tail (λ c. c < d.letters) s.right s.after t in
      let mid : is_accepted d (s.before ++ s.left ∷ s.right ∷ s.after) ≡ is_accepted d (s.before ++ s.right ∷ s.left ∷ s.after) =
      elim (cases_order s.left s.right) [
        | inl e ↦ ap (λ x. is_accepted d (s.before ++ x)) (ap (λ x. x ∷ s.right ∷ s.after) e ∙ ap (λ x. s.right ∷ x ∷ s.after) (sym e))
        | inr o ↦ elim o [
          | inl lt ↦ ordered-swap free s.before s.left s.right s.after bw aw lt rl s.apart
          | inr gt ↦ sym (ordered-swap free s.before s.right s.left s.after bw aw gt l (apart-flip loc s.left s.right s.apart))
        ]
      ] in
      ap (is_accepted d) s.from ∙ mid ∙ sym (ap (is_accepted d) s.to)

  swaps-accepted : ((k : Break) → IsBreak loc d k → ⊥) → {u v : List ℕ} → Swaps loc u v → IsWord d.letters u → is_accepted d u ≡ is_accepted d v
  swaps-accepted free Done h = refl
  swaps-accepted free (Then {u = u} {v = v} {w = w} s t) h = swap-accepted free u v s h ∙ swaps-accepted free t (swap-all loc (λ c. c < d.letters) u v s h)

  break-swap : (k : Break) → IsBreak loc d k → IsSwap loc (k.before ++ k.left ∷ k.right ∷ k.after) (k.before ++ k.right ∷ k.left ∷ k.after)
  break-swap k b = record { before = k.before; left = k.left; right = k.right; after = k.after; apart = b.apart; from = refl; to = refl }

  break-word : (k : Break) → IsBreak loc d k → IsWord d.letters (k.before ++ k.left ∷ k.right ∷ k.after)
  break-word k b =
      All-append (λ c. c < d.letters) k.before (k.left ∷ k.right ∷ k.after) b.before_word
      (let o = b.order in let l = b.letter in
      All-cons (λ c. c < d.letters) k.left (k.right ∷ k.after) (omega arith) (All-cons (λ c. c < d.letters) k.right k.after b.letter b.after_word))

  pub closed-unbroken : IsTraceClosed loc d → (k : Break) → IsBreak loc d k → ⊥
  closed-unbroken c k b =
      let s = break-swap k b in
      let h = break-word k b in
      b.tells (c (k.before ++ k.left ∷ k.right ∷ k.after) (k.before ++ k.right ∷ k.left ∷ k.after) h (swap-all loc (λ x. x < d.letters) _ _ s h)
      (swap-sound loc _ _ s))

  pub unbroken-closed : (processes : ℕ) → IsAlphabet loc d.letters processes → ((k : Break) → IsBreak loc d k → ⊥) → IsTraceClosed loc d
  unbroken-closed processes al free u v hu hv e =
      swaps-accepted free ((equivalence_is_swapping loc d.letters processes u v al hu hv).0 e) hu

  -- what both orders lead to
  pub walk-two : (x : List ℕ) (a b : ℕ) (y : List ℕ) → walk d.step d.start (x ++ a ∷ b ∷ y) ≡ walk d.step (d.step (d.step (walk d.step d.start x) a) b) y
  walk-two x a b y = walk-append d.step d.start x (a ∷ b ∷ y)

  pub diamonds-unbroken : IsTotal d → HasDiamonds loc d → (k : Break) → IsBreak loc d k → ⊥
  diamonds-unbroken t h k b =
      let o = b.order in
      let l = b.letter in
      let q = walk d.step d.start k.before in
      let e = h q k.left k.right (walk-below d t d.start k.before t.starts b.before_word) (omega arith) b.letter b.apart in
      b.tells (ap d.accepts (walk-two k.before k.left k.right k.after ∙ ap (λ x. walk d.step x k.after) e ∙ sym (walk-two k.before k.right k.left k.after)))

  pub closed-diamonds : IsTotal d → IsMinimal d → IsTraceClosed loc d → HasDiamonds loc d
  closed-diamonds t m c q a b ql al bl ind =
      let x = d.step (d.step q a) b in
      let y = d.step (d.step q b) a in
      let xl = t.steps (d.step q a) b (t.steps q a ql al) bl in
      let yl = t.steps (d.step q b) a (t.steps q b ql bl) al in
      elim (cases_eq x y) [
        | inl e ↦ e
        | inr n ↦ absurd (
            let w = m.told x y xl yl n in
            let r = m.reached q ql in
            let rword = r.1.word in
            let ww = w.1.word in
            let hu = All-append (λ z. z < d.letters) r.0 (a ∷ b ∷ w.0) rword
            (All-cons (λ z. z < d.letters) a (b ∷ w.0) al (All-cons (λ z. z < d.letters) b w.0 bl ww)) in
            let hv = All-append (λ z. z < d.letters) r.0 (b ∷ a ∷ w.0) rword
            (All-cons (λ z. z < d.letters) b (a ∷ w.0) bl (All-cons (λ z. z < d.letters) a w.0 al ww)) in
            let s : IsSwap loc (r.0 ++ a ∷ b ∷ w.0) (r.0 ++ b ∷ a ∷ w.0) =
            record { before = r.0; left = a; right = b; after = w.0; apart = ind; from = refl; to = refl } in
            let e = c (r.0 ++ a ∷ b ∷ w.0) (r.0 ++ b ∷ a ∷ w.0) hu hv (swap-sound loc _ _ s) in
            let ea = ap (λ z. d.accepts (walk d.step (d.step (d.step z a) b) w.0)) r.1.there in
            let eb = ap (λ z. d.accepts (walk d.step (d.step (d.step z b) a) w.0)) r.1.there in
            w.1.apart (sym ea ∙ sym (ap d.accepts (walk-two r.0 a b w.0)) ∙ e ∙ ap d.accepts (walk-two r.0 b a w.0) ∙ eb))
      ]

pub closed_is_unbroken : ClosedIsUnbroken
closed_is_unbroken loc processes d al = (closed-unbroken loc d, unbroken-closed loc d processes al)

pub closed_is_diamonds : ClosedIsDiamonds
closed_is_diamonds loc processes d al t m = (closed-diamonds loc d t m, λ h. unbroken-closed loc d processes al (diamonds-unbroken loc d t h))

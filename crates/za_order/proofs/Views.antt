-- Views and pasts have the events from which chains lead to them.
use Rattle.std.proofs.Common.{◌≡◌, ℕ, zero, suc, ◌<◌, true, ◌||◌, inl, inr, List, [], ◌∷◌, ◌++◌, ◌==◌, sym, subst, arith, eqb-true, eq-eqb}
use Rattle.std.proofs.lemmas.Bool.{or_cases, or_left, or_right, cond_both, cases_eq, cond-true}
use Rattle.za_alpha.specs.Words.{has, meets}
use Rattle.za_alpha.proofs.Swaps.{meets-elim, meets-intro}
use Rattle.za_order.specs.Views.{in_view, in_past, Chain, Here, Then}
use Rattle.za_order.proofs.Sets.{has-append, has-own}
use Rattle.za_order.proofs.Chains.{chain-le, chain-trans, chain-first, chain-last, chain-process}

-- a chain leads from i to an event of one of the processes below n
pub record IsReached (who : ℕ → List ℕ) (n : ℕ) (ps : List ℕ) (i : ℕ) : Type 0 where
  pub event : ℕ
  pub process : ℕ
  pub below : event < n
  pub takes : has (who event) process ≡ true
  pub asked : has ps process ≡ true
  pub chain : Chain who i event

module _ (who : ℕ → List ℕ) where
  -- an event in a view is reached
  pub view-sound : (n : ℕ) (ps : List ℕ) (i : ℕ) → in_view who n ps i ≡ true → IsReached who n ps i
  view-sound zero ps i = λ h. cc
  view-sound (suc n) ps i =
      cond_both (meets (who n) ps) (i == n || in_view who n (ps ++ who n) i) (in_view who n ps i)
      (λ v. v ≡ true → IsReached who (suc n) ps i)
      (λ m h. let s = meets-elim (who n) ps m in
      elim (or_cases (i == n) (in_view who n (ps ++ who n) i) h) [
        | inl e ↦ record { event = n; process = s.0; below = omega arith; takes = s.1; asked = s.2; chain = rw (eqb-true i n e) (Here) }
        | inr v ↦
            let r = view-sound n (ps ++ who n) i v in
            let both = rw has-append at r.asked in
            elim (or_cases (has ps r.process) (has (who n) r.process) both) [
              | inl a ↦ record { event = r.event; process = r.process; below = omega arith; takes = r.takes; asked = a; chain = r.chain }
              | inr b ↦ record { event = n; process = s.0; below = omega arith; takes = s.1; asked = s.2; chain = Then r.process r.chain r.below r.takes b }
            ]
      ])
      (λ m h. let r = view-sound n ps i h in
      record { event = r.event; process = r.process; below = omega arith; takes = r.takes; asked = r.asked; chain = r.chain })

  -- and an event that is reached is in the view
  pub view-complete : (n : ℕ) (ps : List ℕ) (i j p : ℕ) → j < n → has (who j) p ≡ true → has ps p ≡ true → Chain who i j → in_view who n ps i ≡ true
  view-complete zero ps i j p l a b c = absurd (omega arith)
  view-complete (suc n) ps i j p l a b c =
      elim (cases_eq j n) [
        | inl e ↦
            let an : has (who n) p ≡ true = rw (← e) a in
            rw (cond-true (meets (who n) ps) (i == n || in_view who n (ps ++ who n) i) (in_view who n ps i) (meets-intro (who n) ps p an b))
            (elim (chain-last who c) [
              | inl k ↦ or_left (i == n) (in_view who n (ps ++ who n) i) (eq-eqb i n (omega arith))
              | inr r ↦ or_right (i == n) (in_view who n (ps ++ who n) i)
                  (view-complete n (ps ++ who n) i r.0 r.1 (let lt = r.3 in omega arith) r.4
                  (rw has-append (or_right (has ps r.1) (has (who n) r.1) (rw (← e) r.5))) r.2)
            ])
        | inr ne ↦
            let lt : j < n = omega arith in
            cond_both (meets (who n) ps) (i == n || in_view who n (ps ++ who n) i) (in_view who n ps i) (λ v. v ≡ true)
            (λ m. or_right (i == n) (in_view who n (ps ++ who n) i)
            (view-complete n (ps ++ who n) i j p lt a (rw has-append (or_left (has ps p) (has (who n) p) b)) c))
            (λ m. view-complete n ps i j p lt a b c)
      ]

  -- views are closed under chains
  pub view-down : (n : ℕ) (ps : List ℕ) (i j : ℕ) → in_view who n ps j ≡ true → Chain who i j → in_view who n ps i ≡ true
  view-down n ps i j h c =
      let r = view-sound n ps j h in
      view-complete n ps i r.event r.process r.below r.takes r.asked (chain-trans who c r.chain)

  -- an event of a view has happened
  pub view-below : (n : ℕ) (ps : List ℕ) (i : ℕ) → in_view who n ps i ≡ true → i < n
  view-below n ps i h =
      let r = view-sound n ps i h in
      let c = chain-le who r.chain in
      let b = r.below in omega arith

  -- an event of a view has a process
  pub view-process : (n : ℕ) (ps : List ℕ) (i : ℕ) → in_view who n ps i ≡ true → (q : ℕ) × (has (who i) q ≡ true)
  view-process n ps i h =
      let r = view-sound n ps i h in
      elim (chain-first who r.chain) [
        | inl e ↦ (r.process, subst (λ v. has (who v) r.process ≡ true) (sym e) r.takes)
        | inr s ↦ (s.1, s.3)
      ]

  -- a process knows its own events
  pub view-own : (n p i : ℕ) → i < n → has (who i) p ≡ true → in_view who n (p ∷ []) i ≡ true
  view-own n p i l a = view-complete n (p ∷ []) i i p l a (has-own p) Here

  -- a chain leads from each event in a past
  pub past-sound : (e i : ℕ) → in_past who e i ≡ true → Chain who i e
  past-sound e i h =
      let r = view-sound (suc e) (who e) i h in
      let b = r.below in
      elim (cases_eq r.event e) [
        | inl k ↦ rw k at r.chain
        | inr ne ↦ Then r.process r.chain (omega arith) r.takes r.asked
      ]

  -- and from no other
  pub past-complete : (e i p : ℕ) → has (who e) p ≡ true → Chain who i e → in_past who e i ≡ true
  past-complete e i p a c = view-complete (suc e) (who e) i e p (omega arith) a a c

  -- the same, where the event i has a process
  pub past-complete' : (e i p : ℕ) → has (who i) p ≡ true → Chain who i e → in_past who e i ≡ true
  past-complete' e i p a c = let q = chain-process who p a c in past-complete e i q.0 q.1 c

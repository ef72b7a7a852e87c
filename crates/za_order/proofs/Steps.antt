-- How views and entries change with an event.
use Rattle.std.proofs.Common.{◌≡◌, ℕ, zero, suc, ◌<◌, ◌≤◌, true, false, ◌⊎◌, inl, inr, List, [], ◌∷◌, Some, None, sym, subst, ◌∙◌, arith}
use Rattle.std.proofs.lemmas.Bool.{cases_eq}
use Rattle.za_alpha.specs.Words.{has}
use Rattle.za_order.specs.Views.{in_view, Chain, Here, Then}
use Rattle.za_order.specs.Entries.{primary}
use Rattle.za_order.specs.Laws.{PrimaryOfParticipant, PrimaryJoined, PrimaryKept}
use Rattle.za_order.proofs.Options.{option-cases, never-some}
use Rattle.za_order.proofs.Sets.{single-has, has-own}
use Rattle.za_order.proofs.Chains.{chain-le, chain-last}
use Rattle.za_order.proofs.Views.{view-sound, view-complete, view-below, view-own}
use Rattle.za_order.proofs.Entries.{IsLatest, IsSecondStep, primary-sound, primary-complete, primary-some}

module _ (who : ℕ → List ℕ) where
  -- views grow
  pub view-grows : (n : ℕ) (ps : List ℕ) (i : ℕ) → in_view who n ps i ≡ true → in_view who (suc n) ps i ≡ true
  view-grows n ps i v =
      let r = view-sound who n ps i v in
      let b = r.below in
      view-complete who (suc n) ps i r.event r.process (omega arith) r.takes r.asked r.chain

  -- what a participant s knew, each participant p knows after the event
  pub view-joins : (n s p i : ℕ) → has (who n) s ≡ true → has (who n) p ≡ true → in_view who n (s ∷ []) i ≡ true → in_view who (suc n) (p ∷ []) i ≡ true
  view-joins n s p i a b v =
      let r = view-sound who n (s ∷ []) i v in
      view-complete who (suc n) (p ∷ []) i n p (omega arith) b (has-own p)
      (Then s r.chain r.below (single-has s r.process (who r.event) r.asked r.takes) a)

  -- what a participant knows after the event is the event, or what one knew before
  pub view-came : (n p i : ℕ) → has (who n) p ≡ true → in_view who (suc n) (p ∷ []) i ≡ true →
      (i ≡ n) ⊎ ((s : ℕ) × (has (who n) s ≡ true) × (in_view who n (s ∷ []) i ≡ true))
  view-came n p i h v =
      let r = view-sound who (suc n) (p ∷ []) i v in
      let b = r.below in
      let tp = single-has p r.process (who r.event) r.asked r.takes in
      elim (cases_eq r.event n) [
        | inl e ↦ elim (chain-last who (subst (λ v. Chain who i v) e r.chain)) [
          | inl same ↦ inl same
          | inr k ↦ inr (k.1, k.5, view-complete who n (k.1 ∷ []) i k.0 k.1 k.3 k.4 (has-own k.1) k.2)
        ]
        | inr ne ↦ inr (p, h, view-complete who n (p ∷ []) i r.event p (omega arith) tp (has-own p) r.chain)
      ]

  -- who takes no part learns nothing
  pub view-kept : (n p i : ℕ) → has (who n) p ≡ false → in_view who (suc n) (p ∷ []) i ≡ true → in_view who n (p ∷ []) i ≡ true
  view-kept n p i out v =
      let r = view-sound who (suc n) (p ∷ []) i v in
      let b = r.below in
      let tp = single-has p r.process (who r.event) r.asked r.takes in
      elim (cases_eq r.event n) [
        | inl same ↦ absurd (let z : has (who n) p ≡ true = subst (λ x. has (who x) p ≡ true) same tp in cc)
        | inr ne ↦ view-complete who n (p ∷ []) i r.event p (omega arith) tp (has-own p) r.chain
      ]

  -- an older primary entry after the event was one before
  latest-before : (n p q g : ℕ) → IsLatest who (suc n) p q g → g < n → (s : ℕ) × IsLatest who n s q g
  latest-before n p q g l lt =
      let r = view-sound who (suc n) (p ∷ []) g l.known in
      let b = r.below in
      let tp = single-has p r.process (who r.event) r.asked r.takes in
      elim (cases_eq r.event n) [
        | inl e ↦
            let c : Chain who g n = subst (λ v. Chain who g v) e r.chain in
            let np : has (who n) p ≡ true = subst (λ v. has (who v) p ≡ true) e tp in
            elim (chain-last who c) [
              | inl same ↦ absurd (omega arith)
              | inr k ↦ (
                k.1,
                record {
                  known = view-complete who n (k.1 ∷ []) g k.0 k.1 k.3 k.4 (has-own k.1) k.2;
                  takes = l.takes;
                  last = λ i v t. l.last i (view-joins n k.1 p i k.5 np v) t;
                },
              )
            ]
        | inr ne ↦ (
          p,
          record {
            known = view-complete who n (p ∷ []) g r.event p (omega arith) tp (has-own p) r.chain;
            takes = l.takes;
            last = λ i v t. l.last i (view-grows n (p ∷ []) i v) t;
          },
        )
      ]

  -- e is a secondary entry of some process
  pub record IsOfSome (n e : ℕ) : Type 0 where
    pub process : ℕ
    pub first : ℕ
    pub second : ℕ
    pub steps : IsSecondStep who n process first second e

  -- an older secondary entry after the event was one of some process before
  secondary-before : (n e : ℕ) → IsOfSome (suc n) e → e < n → IsOfSome n e
  secondary-before n e o lt =
      let s = o.steps in
      elim (cases_eq s.event n) [
        | inl same ↦
            let c : Chain who e n = subst (λ v. Chain who e v) same s.past.chain in
            elim (chain-last who c) [
              | inl k ↦ absurd (omega arith)
              | inr k ↦ record {
                process = k.1;
                first = o.second;
                second = o.second;
                steps = record {
                  event = e;
                  first = record {
                    known = view-complete who n (k.1 ∷ []) e k.0 k.1 k.3 k.4 (has-own k.1) k.2;
                    takes = s.past.takes;
                    last = λ i v t.
                        let r = view-sound who n (k.1 ∷ []) i v in
                        let d : Chain who i n = Then k.1 r.chain r.below (single-has k.1 r.process (who r.event) r.asked r.takes) k.5 in
                        s.past.last i (subst (λ v. Chain who i v) (sym same) d) t;
                  };
                  past = record { chain = Here; takes = s.past.takes; last = λ i d t. chain-le who d };
                };
              }
            ]
        | inr ne ↦
            let below = view-below who (suc n) (o.process ∷ []) s.event s.first.known in
            let l = latest-before n o.process o.first s.event s.first (omega arith) in
            record { process = l.0; first = o.first; second = o.second; steps = record { event = s.event; first = l.1; past = s.past } }
      ]

  -- the same over several events
  pub secondary-at : (m n e : ℕ) → m ≤ n → e < m → IsOfSome n e → IsOfSome m e
  secondary-at m zero e l lt o = absurd (omega arith)
  secondary-at m (suc n) e l lt o =
      elim (cases_eq m (suc n)) [
        | inl same ↦ subst (λ v. IsOfSome v e) (sym same) o
        | inr ne ↦ secondary-at m n e (omega arith) lt (secondary-before n e o (omega arith))
      ]

-- the event is the latest of all
pub primary_of_participant : PrimaryOfParticipant
primary_of_participant who n p q a b =
    primary-complete who (suc n) p q n (record {
      known = view-own who (suc n) p n (omega arith) a;
      takes = b;
      last = λ i v t. let l = view-below who (suc n) (p ∷ []) i v in omega arith;
    })

-- the greatest that a participant knew, of a process that takes no part
primary-joined : (who : ℕ → List ℕ) (n p q s g : ℕ) → has (who n) p ≡ true → has (who n) q ≡ false → has (who n) s ≡ true → primary who n s q ≡ Some g →
    ((t h : ℕ) → has (who n) t ≡ true → primary who n t q ≡ Some h → h ≤ g) → primary who (suc n) p q ≡ Some g
primary-joined who n p q s g a other hs e most =
    let l = primary-sound who n s q g e in
    primary-complete who (suc n) p q g (record {
      known = view-joins who n s p g hs a l.known;
      takes = l.takes;
      last = λ i v t. elim (view-came who n p i a v) [
        | inl same ↦ absurd (let z : has (who n) q ≡ true = subst (λ x. has (who x) q ≡ true) same t in cc)
        | inr k ↦
            let o = primary-some who n k.0 q i k.2 t in
            let m = most k.0 o.0 k.1 o.1 in
            let b = (primary-sound who n k.0 q o.0 o.1).last i k.2 t in
            omega arith
      ];
    })

-- some entry, or none
pub primary_joined : PrimaryJoined
primary_joined who n p q a other = (
  λ s g. primary-joined who n p q s g a other,
  λ nothing. never-some (primary who (suc n) p q) (λ e h.
      let l = primary-sound who (suc n) p q e h in
      elim (view-came who n p e a l.known) [
        | inl same ↦ let z : has (who n) q ≡ true = subst (λ x. has (who x) q ≡ true) same l.takes in cc
        | inr k ↦ let o = primary-some who n k.0 q e k.2 l.takes in let z : None ≡ Some o.0 = sym (nothing k.0 k.1) ∙ o.1 in cc
      ]),
)

-- the view stays
pub primary_kept : PrimaryKept
primary_kept who n p q out =
    elim (option-cases (primary who n p q)) [
      | inl none ↦
          never-some (primary who (suc n) p q) (λ e h.
          let l = primary-sound who (suc n) p q e h in
          let o = primary-some who n p q e (view-kept who n p e out l.known) l.takes in
          let z : None ≡ Some o.0 = sym none ∙ o.1 in cc) ∙ sym none
      | inr k ↦
          let l = primary-sound who n p q k.0 k.1 in
          primary-complete who (suc n) p q k.0 (record {
            known = view-grows who n (p ∷ []) k.0 l.known;
            takes = l.takes;
            last = λ i v t. l.last i (view-kept who n p i out v) t;
          }) ∙ sym k.1
    ]

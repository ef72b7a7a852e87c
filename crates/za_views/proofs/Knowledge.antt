-- What a process knows is what its own last event knows, and what an event knows is joined from what its participants
-- knew.
use Rattle.std.proofs.Common.{◌≡◌, ℕ, suc, ◌<◌, true, false, inl, inr, List, [], ◌∷◌, Option, Some, None, option_and_then, sym, ap, ◌∙◌, arith}
use Rattle.std.proofs.lemmas.Bool.{cases_Bool}
use Rattle.za_alpha.specs.Words.{has}
use Rattle.za_order.specs.Views.{Chain, in_view}
use Rattle.za_order.specs.Entries.{primary, last_in_past}
use Rattle.za_order.proofs.Options.{option-cases, never-some, same-option, then-some, some-then}
use Rattle.za_order.proofs.Sets.{single-has}
use Rattle.za_order.proofs.Chains.{chain-same, chain-trans}
use Rattle.za_order.proofs.Views.{view-sound, view-down, view-own}
use Rattle.za_order.proofs.Entries.{IsLatest, primary-sound, primary-complete, primary-some, last_in_past-sound, last_in_past-complete}
use Rattle.za_order.proofs.Steps.{primary_of_participant, primary_joined}
use Rattle.za_views.specs.Private.Newest.{IsNewest, IsJoined}

module _ (who : ℕ → List ℕ) (n p : ℕ) where
  -- a chain leads from each event that p knows to its own last event
  known-chain : (e i : ℕ) → IsLatest who n p p e → in_view who n (p ∷ []) i ≡ true → Chain who i e
  known-chain e i l v =
      let r = view-sound who n (p ∷ []) i v in
      let own : has (who r.event) p ≡ true = single-has p r.process (who r.event) r.asked r.takes in
      let late = l.last r.event (view-own who n p r.event r.below own) own in
      chain-trans who r.chain (chain-same who p r.event e late own l.takes)

  -- who knows an event has an own last event
  own-some : (i : ℕ) → in_view who n (p ∷ []) i ≡ true → (e : ℕ) × (primary who n p p ≡ Some e)
  own-some i v =
      let r = view-sound who n (p ∷ []) i v in
      let own : has (who r.event) p ≡ true = single-has p r.process (who r.event) r.asked r.takes in
      primary-some who n p p r.event (view-own who n p r.event r.below own) own

  -- a primary entry is the latest in the past of the own last event
  pub primary-through_own : (q : ℕ) → primary who n p q ≡ option_and_then (λ e. last_in_past who e q) (primary who n p p)
  primary-through_own q =
      same-option (primary who n p q) (option_and_then (λ e. last_in_past who e q) (primary who n p p))
      (λ g h.
      let l = primary-sound who n p q g h in
      let o = own-some g l.known in
      let own = primary-sound who n p p o.0 o.1 in
      some-then (λ e. last_in_past who e q) (primary who n p p) o.0 g o.1
      (last_in_past-complete who o.0 q g (record {
        chain = known-chain o.0 g own l.known;
        takes = l.takes;
        last = λ i c t. l.last i (view-down who n (p ∷ []) i o.0 own.known c) t;
      })))
      (λ g h.
      let o = then-some (λ e. last_in_past who e q) (primary who n p p) g h in
      let own = primary-sound who n p p o.0 o.1 in
      let l = last_in_past-sound who o.0 q g o.2 in
      primary-complete who n p q g (record {
        known = view-down who n (p ∷ []) g o.0 own.known l.chain;
        takes = l.takes;
        last = λ i v t. l.last i (known-chain o.0 i own v) t;
      }))

module _ (who : ℕ → List ℕ) (n p q : ℕ) (takes : has (who n) p ≡ true) where
  -- after the event n a participant knows what the event knows
  last-of-next : last_in_past who n q ≡ primary who (suc n) p q
  last-of-next =
      sym (primary-through_own who (suc n) p q
      ∙ ap (option_and_then (λ e. last_in_past who e q)) (primary_of_participant who n p p takes takes))

  -- the newest that a participant knew, joined as the event's
  newest-is : (processes : ℕ) (entry : ℕ → Option ℕ) (o : Option ℕ) → ((s : ℕ) → has (who n) s ≡ true → s < processes) →
      ((s : ℕ) → s < processes → entry s ≡ primary who n s q) → has (who n) q ≡ false → IsNewest (who n) processes entry o → o ≡ primary who (suc n) p q
  newest-is processes entry o below same other newest =
      let joined = primary_joined who n p q takes other in
      elim (option-cases o) [
        | inl none ↦
            none ∙ sym (joined.1 (λ s t.
            never-some (primary who n s q) (λ h e.
            let b = below s t in
            let m = newest.most s h b t (same s b ∙ e) in
            let z : None ≡ Some m.0 = sym none ∙ m.1 in cc)))
        | inr g ↦
            let f = newest.found g.0 g.1 in
            g.1 ∙ sym (joined.0 f.0 g.0 f.2 (sym (same f.0 f.1) ∙ f.3) (λ t h u e.
            let b = below t u in
            let m = newest.most t h b u (same t b ∙ e) in
            let k : Some g.0 ≡ Some m.0 = sym g.1 ∙ m.1 in
            let z : g.0 ≡ m.0 = cc in
            let le = m.2 in omega arith))
      ]

  -- the event itself, or the newest that a participant knew
  pub joined-is : (processes : ℕ) (entry : ℕ → Option ℕ) (o : Option ℕ) → ((s : ℕ) → has (who n) s ≡ true → s < processes) →
      ((s : ℕ) → s < processes → entry s ≡ primary who n s q) → IsJoined (who n) processes n q entry o → o ≡ last_in_past who n q
  joined-is processes entry o below same joined =
      elim (cases_Bool (has (who n) q)) [
        | inl t ↦ joined.takes t ∙ sym (primary_of_participant who n p q takes t)
        | inr f ↦ newest-is processes entry o below same f (joined.others f)
      ]
      ∙ sym last-of-next

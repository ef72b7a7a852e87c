-- Entries as facts about views and chains.
use Rattle.std.proofs.Common.{◌≡◌, ℕ, suc, ◌<◌, ◌≤◌, true, ◌&&◌, List, [], ◌∷◌, Some, arith}
use Rattle.std.proofs.lemmas.Bool.{and_parts, and_from}
use Rattle.za_alpha.specs.Words.{has}
use Rattle.za_order.specs.Views.{in_view, in_past, Chain}
use Rattle.za_order.specs.Entries.{primary, last_in_past, secondary, tertiary}
use Rattle.za_order.proofs.Options.{then-some, some-then}
use Rattle.za_order.proofs.Chains.{chain-le}
use Rattle.za_order.proofs.Views.{view-below, past-sound, past-complete'}
use Rattle.za_order.proofs.Greatest.{greatest-sound, greatest-complete, greatest-some}

-- e is the last event of q in the view of p
pub record IsLatest (who : ℕ → List ℕ) (n p q e : ℕ) : Type 0 where
  pub known : in_view who n (p ∷ []) e ≡ true
  pub takes : has (who e) q ≡ true
  pub last : (i : ℕ) → in_view who n (p ∷ []) i ≡ true → has (who i) q ≡ true → i ≤ e

-- e is the last event of r in the past of f
pub record IsLastInPast (who : ℕ → List ℕ) (f r e : ℕ) : Type 0 where
  pub chain : Chain who e f
  pub takes : has (who e) r ≡ true
  pub last : (i : ℕ) → Chain who i f → has (who i) r ≡ true → i ≤ e

-- the steps of a secondary entry
pub record IsSecondStep (who : ℕ → List ℕ) (n p q r e : ℕ) : Type 0 where
  pub event : ℕ
  pub first : IsLatest who n p q event
  pub past : IsLastInPast who event r e

-- the steps of a tertiary entry
pub record IsThirdStep (who : ℕ → List ℕ) (n p q r s e : ℕ) : Type 0 where
  pub event : ℕ
  pub second : IsSecondStep who n p q r event
  pub past : IsLastInPast who event s e

module _ (who : ℕ → List ℕ) where
  -- a primary entry is the last event of its process in the view
  pub primary-sound : (n p q e : ℕ) → primary who n p q ≡ Some e → IsLatest who n p q e
  primary-sound n p q e h =
      let g = greatest-sound (λ i. in_view who n (p ∷ []) i && has (who i) q) n e h in
      let b = and_parts (in_view who n (p ∷ []) e) (has (who e) q) g.passes in
      record { known = b.0; takes = b.1; last = λ i v t. g.most i (view-below who n (p ∷ []) i v) (and_from (in_view who n (p ∷ []) i) (has (who i) q) v t) }

  -- and that event is the primary entry
  pub primary-complete : (n p q e : ℕ) → IsLatest who n p q e → primary who n p q ≡ Some e
  primary-complete n p q e h =
      greatest-complete (λ i. in_view who n (p ∷ []) i && has (who i) q) n e (view-below who n (p ∷ []) e h.known)
      (and_from (in_view who n (p ∷ []) e) (has (who e) q) h.known h.takes)
      (λ i l t. let b = and_parts (in_view who n (p ∷ []) i) (has (who i) q) t in h.last i b.0 b.1)

  -- where the view of p has an event of q, there is a latest
  pub primary-some : (n p q i : ℕ) → in_view who n (p ∷ []) i ≡ true → has (who i) q ≡ true → (e : ℕ) × (primary who n p q ≡ Some e)
  primary-some n p q i v t =
      greatest-some (λ j. in_view who n (p ∷ []) j && has (who j) q) n i (view-below who n (p ∷ []) i v)
      (and_from (in_view who n (p ∷ []) i) (has (who i) q) v t)

  -- the same of the last event in a past
  pub last_in_past-sound : (f r e : ℕ) → last_in_past who f r ≡ Some e → IsLastInPast who f r e
  last_in_past-sound f r e h =
      let g = greatest-sound (λ i. in_past who f i && has (who i) r) (suc f) e h in
      let b = and_parts (in_past who f e) (has (who e) r) g.passes in
      record {
        chain = past-sound who f e b.0;
        takes = b.1;
        last = λ i c t. let l = chain-le who c in g.most i (omega arith) (and_from (in_past who f i) (has (who i) r) (past-complete' who f i r t c) t);
      }

  -- and back
  pub last_in_past-complete : (f r e : ℕ) → IsLastInPast who f r e → last_in_past who f r ≡ Some e
  last_in_past-complete f r e h =
      let l = chain-le who h.chain in
      greatest-complete (λ i. in_past who f i && has (who i) r) (suc f) e (omega arith)
      (and_from (in_past who f e) (has (who e) r) (past-complete' who f e r h.takes h.chain) h.takes)
      (λ i l' t. let b = and_parts (in_past who f i) (has (who i) r) t in h.last i (past-sound who f i b.0) b.1)

  -- a secondary entry is found in two steps
  pub secondary-sound : (n p q r e : ℕ) → secondary who n p q r ≡ Some e → IsSecondStep who n p q r e
  secondary-sound n p q r e h =
      let k = then-some (λ g. last_in_past who g r) (primary who n p q) e h in
      record { event = k.0; first = primary-sound n p q k.0 k.1; past = last_in_past-sound k.0 r e k.2 }

  -- and back
  pub secondary-complete : (n p q r e : ℕ) → IsSecondStep who n p q r e → secondary who n p q r ≡ Some e
  secondary-complete n p q r e s =
      some-then (λ g. last_in_past who g r) (primary who n p q) s.event e (primary-complete n p q s.event s.first) (last_in_past-complete s.event r e s.past)

  -- a tertiary entry is found in three steps
  pub tertiary-sound : (n p q r s e : ℕ) → tertiary who n p q r s ≡ Some e → IsThirdStep who n p q r s e
  tertiary-sound n p q r s e h =
      let k = then-some (λ g. last_in_past who g s) (secondary who n p q r) e h in
      record { event = k.0; second = secondary-sound n p q r k.0 k.1; past = last_in_past-sound k.0 s e k.2 }

  -- and back
  pub tertiary-complete : (n p q r s e : ℕ) → IsThirdStep who n p q r s e → tertiary who n p q r s ≡ Some e
  tertiary-complete n p q r s e t =
      some-then (λ g. last_in_past who g s) (secondary who n p q r) t.event e (secondary-complete n p q r t.event t.second)
      (last_in_past-complete t.event s e t.past)

  -- entries have happened
  pub primary-below : (n p q e : ℕ) → IsLatest who n p q e → e < n
  primary-below n p q e l = view-below who n (p ∷ []) e l.known

  -- the same of secondary entries
  pub secondary-below : (n p q r e : ℕ) → IsSecondStep who n p q r e → e < n
  secondary-below n p q r e s = let b = primary-below n p q s.event s.first in let c = chain-le who s.past.chain in omega arith

  -- the same of tertiary entries
  pub tertiary-below : (n p q r s e : ℕ) → IsThirdStep who n p q r s e → e < n
  tertiary-below n p q r s e t = let b = secondary-below n p q r t.event t.second in let c = chain-le who t.past.chain in omega arith

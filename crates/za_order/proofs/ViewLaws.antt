-- The laws on views and entries, in the words of specs/.
use Rattle.std.proofs.Common.{◌≡◌, ℕ, suc, true, inl, inr, List, [], ◌∷◌, arith}
use Rattle.std.proofs.lemmas.Bool.{cases_eq}
use Rattle.za_alpha.specs.Words.{has}
use Rattle.za_order.specs.Views.{participants, in_view, Then}
use Rattle.za_order.specs.Laws.{PastIsChains, ParticipantsAgree, SharedMaximalIsPrimary, NewerBySecondary, TertiaryCovers}
use Rattle.za_order.proofs.Sets.{single-has, has-own, same-test}
use Rattle.za_order.proofs.Participants.{word-over}
use Rattle.za_order.proofs.Views.{view-sound, view-complete, view-process, past-sound, past-complete, past-complete'}
use Rattle.za_order.proofs.Entries.{primary-sound, primary-complete, secondary-sound, secondary-complete, tertiary-complete}
use Rattle.za_order.proofs.Maximal.{maximal-primary, known-secondary, secondary-known, secondary-tertiary}

-- what a participant knows after the event, each other knows
view-after : (who : ℕ → List ℕ) (e p q i : ℕ) → has (who e) p ≡ true → has (who e) q ≡ true → in_view who (suc e) (p ∷ []) i ≡ true →
    in_view who (suc e) (q ∷ []) i ≡ true
view-after who e p q i a b v =
    let r = view-sound who (suc e) (p ∷ []) i v in
    let below = r.below in
    view-complete who (suc e) (q ∷ []) i e q (omega arith) b (has-own q)
    (elim (cases_eq r.event e) [
      | inl k ↦ rw k at r.chain
      | inr ne ↦ Then p r.chain (omega arith) (single-has p r.process (who r.event) r.asked r.takes) a
    ])

-- an event of the word has a participant
pub past_is_chains : PastIsChains
past_is_chains loc letters processes w e i alphabet word l =
    let p = (word-over loc letters processes w alphabet word).some e l in
    (past-sound (participants loc w) e i, past-complete (participants loc w) e i p.0 p.1)

-- both ways
pub participants_agree : ParticipantsAgree
participants_agree who e p q i a b =
    same-test (in_view who (suc e) (p ∷ []) i) (in_view who (suc e) (q ∷ []) i) (view-after who e p q i a b) (view-after who e q p i b a)

-- by the two views in both orders
pub shared_maximal_is_primary : SharedMaximalIsPrimary
shared_maximal_is_primary who n p q f t =
    let k = view-process who n (p ∷ []) f t.in_one in
    let a = maximal-primary who n p q f (record { one = t.in_one; two = t.in_other; alone = λ g x y c. t.maximal g x y (past-complete' who g f k.0 k.1 c) }) in
    let b = maximal-primary who n q p f (record { one = t.in_other; two = t.in_one; alone = λ g x y c. t.maximal g y x (past-complete' who g f k.0 k.1 c) }) in
    ((b.0, primary-complete who n p b.0 f b.1), (a.0, primary-complete who n q a.0 f a.1))

-- through a maximal event above it, and by closure under chains
pub newer_by_secondary : NewerBySecondary
newer_by_secondary who n x y r e h = (
  λ v. let k = known-secondary who n x y r e (primary-sound who n x r e h) v in (k.0, secondary-complete who n y k.0 r e k.1),
  λ s. secondary-known who n y s.0 r e (secondary-sound who n y s.0 r e s.1),
)

-- by its inner event
pub tertiary_covers : TertiaryCovers
tertiary_covers who n u p e s v =
    let t = secondary-tertiary who n u s.0 s.1 e p (secondary-sound who n u s.0 s.1 e s.2) v in
    (t.0, t.1, s.1, tertiary-complete who n p t.0 t.1 s.1 e t.2)

-- Who has which letter in hand, from move to move.
use Rattle.std.proofs.Common.{◌≡◌, ◌≢◌, ℕ, zero, suc, ◌<◌, List, replicate, Option, Some, None, refl, sym, ap, subst, ◌∙◌, inl, inr, arith, slice_set}
use Rattle.std.proofs.Common.{length-set, get_or-set_other, get_or-set_same}
use Rattle.std.proofs.lemmas.Bool.{cases_eq}
use Rattle.std.proofs.lemmas.List.{length-replicate}
use Rattle.za_machine.specs.Machine.{Machine, IsMachine, State, Event, Arrive, Fire, End, after_event, fire, IsAllowed, IsMachineState}
use Rattle.za_machine.specs.Hands.{hand, no_hands, IsInHand, AreInHand, Happen, TakeUp, Settle, PutBack, IsFree}
use Rattle.za_machine.specs.Laws.{NoHandsAtFirst, MovesKeepHands, InHandIsNotOver}
use Rattle.za_machine.proofs.States.{complete_stays, complete-not_over, reached_more}

none-at : (n a : ℕ) → hand (replicate n None) a ≡ None
none-at zero a = refl
none-at (suc n) zero = refl
none-at (suc n) (suc a) = none-at n a

nobody : {X : Type 0} (o : Option X) (x : X) → o ≡ None → o ≡ Some x → ⊥
nobody o x n s = let e : None ≡ Some x = sym n ∙ s in cc

pub no_hands_at_first : NoHandsAtFirst
no_hands_at_first m = record {
  size = length-replicate m.letters None;
  each = λ a p h. absurd (nobody (hand (no_hands m) a) p (none-at m.letters a) h);
}

abbrev named : Event → ℕ
named (Arrive p) = p
named (Fire a) = a
named (End p) = p

module _ (m : Machine) (c : State) (hands : List (Option ℕ)) (ok : IsMachine m) (r : IsMachineState m c) (h : AreInHand m c hands) where
  -- a letter that is not fired stays in hand
  stays : (e : Event) (a p : ℕ) → IsAllowed m c e → (e ≡ Fire a → ⊥) → IsInHand m c a p → IsInHand m (after_event m c e) a p
  stays e a p k n i = record { letter = i.letter; complete = complete_stays m c a e ok r i.letter i.complete k n; own = i.own }

  other : (b a : ℕ) (e : Event) → hand hands a ≡ None → (p : ℕ) → hand hands b ≡ Some p → e ≡ Fire a → e ≡ Fire b → ⊥
  other b a e n p s x y = let z : a ≡ b = ap named (sym x ∙ y) in nobody (hand hands b) p (subst (λ i. hand hands i ≡ None) z n) s

  happens : (e : Event) → IsAllowed m c e → IsFree hands e → AreInHand m (after_event m c e) hands
  happens (Arrive q) k f = record { size = h.size; each = λ a p s. stays (Arrive q) a p k (λ x. cc) (h.each a p s) }
  happens (Fire b) k f = record { size = h.size; each = λ a p s. stays (Fire b) a p k (λ x. other a b (Fire b) f p s refl x) (h.each a p s) }
  happens (End q) k f = record { size = h.size; each = λ a p s. stays (End q) a p k (λ x. cc) (h.each a p s) }

  -- what is in hand where one entry is set
  set-other : (b : ℕ) (o : Option ℕ) (a p : ℕ) → a ≢ b → hand (slice_set hands b o) a ≡ Some p → hand hands a ≡ Some p
  set-other b o a p n s = sym (get_or-set_other hands b a o None n) ∙ s

  set-own : (b : ℕ) (o : Option ℕ) → b < m.letters → hand (slice_set hands b o) b ≡ o
  set-own b o l = get_or-set_same hands b o None (let z = h.size in omega arith)

  takes_up : (b q : ℕ) → IsInHand m c b q → AreInHand m c (slice_set hands b (Some q))
  takes_up b q i = record {
    size = length-set hands b (Some q) ∙ h.size;
    each = λ a p s. elim (cases_eq a b) [
      | inl e ↦
          let z : Some q ≡ Some p = sym (set-own b (Some q) i.letter) ∙ subst (λ x. hand (slice_set hands b (Some q)) x ≡ Some p) e s in
          let y : q ≡ p = cc in subst (λ x. IsInHand m c x p) (sym e) (subst (IsInHand m c b) y i)
      | inr n ↦ h.each a p (set-other b (Some q) a p n s)
    ];
  }

  -- a letter that is no longer in hand, in a state in which the others may stay there
  lets_go : (d : State) (b q : ℕ) → hand hands b ≡ Some q → ((a p : ℕ) → a ≢ b → IsInHand m c a p → IsInHand m d a p) → AreInHand m d (slice_set hands b None)
  lets_go d b q s keep = record {
    size = length-set hands b None ∙ h.size;
    each = λ a p t. elim (cases_eq a b) [
      | inl e ↦ absurd (nobody (hand (slice_set hands b None) b) p (set-own b None (h.each b q s).letter)
          (subst (λ x. hand (slice_set hands b None) x ≡ Some p) e t))
      | inr n ↦ keep a p n (h.each a p (set-other b None a p n t))
    ];
  }

  settles : (b q : ℕ) → hand hands b ≡ Some q → IsMachineState m (fire m.loc b c) × AreInHand m (fire m.loc b c) (slice_set hands b None)
  settles b q s =
      let i = h.each b q s in
      let k : IsAllowed m c (Fire b) = (i.letter, i.complete) in
      (reached_more m c (Fire b) r k, lets_go (fire m.loc b c) b q s (λ a p n j. stays (Fire b) a p k (λ x. n (sym (ap named x))) j))

pub moves_keep_hands : MovesKeepHands
moves_keep_hands m c hands (Happen e) ok r h k = (reached_more m c e r k.0, happens m c hands ok r h e k.0 k.1)
moves_keep_hands m c hands (TakeUp a p) ok r h k = (r, takes_up m c hands ok r h a p k.0)
moves_keep_hands m c hands (Settle a p) ok r h k = settles m c hands ok r h a p k
moves_keep_hands m c hands (PutBack a p) ok r h k = (r, lets_go m c hands ok r h c a p k (λ b q n i. i))

pub in_hand_is_not_over : InHandIsNotOver
in_hand_is_not_over m c hands a p h s o = let i = h.each a p s in complete-not_over m c a i.letter i.complete o

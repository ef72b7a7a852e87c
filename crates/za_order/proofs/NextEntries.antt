-- The entries of the participants after an event n, and of the other processes.
use Rattle.std.proofs.Common.{◌≡◌, ℕ, suc, true, false, ◌&&◌, inl, inr, List, [], ◌∷◌, Some, None, option_and_then, sym, ap, subst, ◌∙◌, arith}
use Rattle.za_alpha.specs.Words.{has}
use Rattle.za_order.specs.Views.{in_view, in_past, Chain, Here, Then}
use Rattle.za_order.specs.Entries.{primary, last_in_past, secondary, tertiary}
use Rattle.za_order.proofs.Options.{option-cases, never-some}
use Rattle.za_order.proofs.Sets.{same-test, single-has, has-own}
use Rattle.za_order.proofs.Views.{view-sound, view-complete, past-sound, past-complete}
use Rattle.za_order.proofs.Entries.{primary-sound, primary-some}
use Rattle.za_order.proofs.Steps.{view-came, primary_of_participant, primary_joined, primary_kept}
use Rattle.za_order.proofs.Prefixes.{greatest-same}
use Rattle.za_order.specs.Laws.{SecondaryOfParticipant, TertiaryOfParticipant, SecondaryJoined, TertiaryJoined, SecondaryKept, TertiaryKept}
use Rattle.za_order.proofs.LatestNews.{IsNewest, knows-from}

module _ (who : ℕ → List ℕ) (n p : ℕ) where
  -- for a process q that takes no part, what the newest had
  pub primary-newest : (q b : ℕ) → has (who n) p ≡ true → has (who n) q ≡ false → IsNewest who n (who n) q b → primary who (suc n) p q ≡ primary who n b q
  primary-newest q b a other k =
      let joined = primary_joined who n p q a other in
      elim (option-cases (primary who n b q)) [
        | inl none ↦
            joined.1 (λ s h. never-some (primary who n s q) (λ e l.
            let f = primary-some who n b q e (k.knows s e h l) (primary-sound who n s q e l).takes in
            let c : None ≡ Some f.0 = sym none ∙ f.1 in cc)) ∙ sym none
        | inr one ↦
            joined.0 b one.0 k.among one.1
            (λ t h x l. (primary-sound who n b q one.0 one.1).last h (k.knows t h x l) (primary-sound who n t q h l).takes)
            ∙ sym one.1
      ]

  pub secondary-newest : (q r b : ℕ) → has (who n) p ≡ true → has (who n) q ≡ false → IsNewest who n (who n) q b →
      secondary who (suc n) p q r ≡ secondary who n b q r
  secondary-newest q r b a other k = ap (λ o. option_and_then (λ e. last_in_past who e r) o) (primary-newest q b a other k)

  pub tertiary-newest : (q r s b : ℕ) → has (who n) p ≡ true → has (who n) q ≡ false → IsNewest who n (who n) q b →
      tertiary who (suc n) p q r s ≡ tertiary who n b q r s
  tertiary-newest q r s b a other k = ap (λ o. option_and_then (λ e. last_in_past who e s) o) (secondary-newest q r b a other k)

  -- the past of the event is what its participants know
  pub past-own : (i : ℕ) → has (who n) p ≡ true → in_past who n i ≡ in_view who (suc n) (p ∷ []) i
  past-own i a =
      same-test (in_past who n i) (in_view who (suc n) (p ∷ []) i)
      (λ h. view-complete who (suc n) (p ∷ []) i n p (omega arith) a (has-own p) (past-sound who n i h))
      (λ h. elim (view-came who n p i a h) [
        | inl e ↦ past-complete who n i p a (subst (λ v. Chain who i v) e Here)
        | inr s ↦
            let r = view-sound who n (s.0 ∷ []) i s.2 in
            past-complete who n i p a (Then s.0 r.chain r.below (single-has s.0 r.process (who r.event) r.asked r.takes) s.1)
      ])

  -- for a participant q, the primary entries one step further on
  pub secondary-own : (q r : ℕ) → has (who n) p ≡ true → has (who n) q ≡ true → secondary who (suc n) p q r ≡ primary who (suc n) p r
  secondary-own q r a b =
      ap (λ o. option_and_then (λ e. last_in_past who e r) o) (primary_of_participant who n p q a b)
      ∙ greatest-same (λ i. in_past who n i && has (who i) r) (λ i. in_view who (suc n) (p ∷ []) i && has (who i) r) (suc n)
      (λ i l. ap (λ v. v && has (who i) r) (past-own i a))

  pub tertiary-own : (q r s : ℕ) → has (who n) p ≡ true → has (who n) q ≡ true → tertiary who (suc n) p q r s ≡ secondary who (suc n) p r s
  tertiary-own q r s a b = ap (λ o. option_and_then (λ e. last_in_past who e s) o) (secondary-own q r a b)

  -- who takes no part keeps its entries
  pub secondary-kept : (q r : ℕ) → has (who n) p ≡ false → secondary who (suc n) p q r ≡ secondary who n p q r
  secondary-kept q r out = ap (λ o. option_and_then (λ e. last_in_past who e r) o) (primary_kept who n p q out)

  pub tertiary-kept : (q r s : ℕ) → has (who n) p ≡ false → tertiary who (suc n) p q r s ≡ tertiary who n p q r s
  tertiary-kept q r s out = ap (λ o. option_and_then (λ e. last_in_past who e s) o) (secondary-kept q r out)

-- in the words of the laws
pub secondary_of_participant : SecondaryOfParticipant
secondary_of_participant who n p q r a b = secondary-own who n p q r a b

pub tertiary_of_participant : TertiaryOfParticipant
tertiary_of_participant who n p q r s a b = tertiary-own who n p q r s a b

pub secondary_joined : SecondaryJoined
secondary_joined who n p q b r a other h k = secondary-newest who n p q r b a other (knows-from who n (who n) q b h k)

pub tertiary_joined : TertiaryJoined
tertiary_joined who n p q b r s a other h k = tertiary-newest who n p q r s b a other (knows-from who n (who n) q b h k)

pub secondary_kept : SecondaryKept
secondary_kept who n p q r out = secondary-kept who n p q r out

pub tertiary_kept : TertiaryKept
tertiary_kept who n p q r s out = tertiary-kept who n p q r s out

-- The numbers of the participants after an event, and of the other processes.
use Rattle.std.proofs.Common.{◌≡◌, ℕ, suc, ◌<◌, true, false, inl, inr, List, [], ◌∷◌, ◌++◌, length, slice_index, Option, Some, None, refl, sym, ap, subst, ◌∙◌}
use Rattle.std.proofs.Common.{arith}
use Rattle.std.proofs.Math.Path.{fun_ext}
use Rattle.std.proofs.lemmas.Bool.{cases_Bool, cond-true, cond-false}
use Rattle.za_alpha.specs.Words.{has, IsAlphabet, IsWord}
use Rattle.za_order.specs.Views.{participants}
use Rattle.za_order.specs.Entries.{primary, secondary, tertiary}
use Rattle.za_order.specs.Labels.{label, number_of, number}
use Rattle.za_order.specs.Locals.{Ids, ids}
use Rattle.za_order.proofs.Participants.{IsOver, word-over}
use Rattle.za_order.proofs.Entries.{primary-sound, primary-below, secondary-sound, secondary-below, tertiary-sound, tertiary-below}
use Rattle.za_order.proofs.Equivalent.{same-ids}
use Rattle.za_order.proofs.Steps.{primary_of_participant, primary_kept}
use Rattle.za_order.proofs.Prefixes.{Agree, primary-same, secondary-same, tertiary-same, label-same}
use Rattle.za_gossip.specs.Rows.{rows_of, rows_after}
use Rattle.za_gossip.specs.Updates.{newest, new_label, new_primary, new_secondary, new_tertiary, updated}
use Rattle.za_gossip.specs.Laws.{ParticipantsUpdate, OthersKeep, NewLabelIsLabel}
use Rattle.za_order.proofs.LatestNews.{IsNewest, newest-some, best-newest}
use Rattle.za_order.proofs.NextLetter.{length-next, word-next, agrees, seam, at-seam}
use Rattle.za_order.proofs.NextEntries.{primary-newest, secondary-newest, tertiary-newest, secondary-own, tertiary-own, secondary-kept, tertiary-kept}
use Rattle.za_gossip.proofs.Numbers.{newest-best, label-new}

-- at the event n of a word
module _ (loc : ℕ → List ℕ) (letters processes : ℕ) (w : List ℕ) (alphabet : IsAlphabet loc letters processes) (word : IsWord letters w) (n : ℕ)
    (l : n < length w) where
  abbrev who : ℕ → List ℕ
  who = participants loc w

  abbrev known : ℕ → Ids
  known = ids loc processes w n

  abbrev a : ℕ
  a = slice_index w n

  over : IsOver loc letters processes w
  over = word-over loc letters processes w alphabet word

  -- the newest by numbers is one
  newest-at : (q p : ℕ) → has (who n) p ≡ true → IsNewest who n (who n) q (newest processes (who n) known q)
  newest-at q p h =
      let some = newest-some who n (who n) q p h in
      subst (λ b. IsNewest who n (who n) q b) (sym (newest-best loc letters processes w alphabet word n (omega arith) (who n) q))
      (best-newest who n processes (who n) q some.0 (over.below n some.0 l some.1.among) some.1)

  primary-next : (p q : ℕ) → has (who n) p ≡ true → (ids loc processes w (suc n) p).primary q ≡ new_primary processes (who n) a known q
  primary-next p q h =
      let e : ℕ = number_of processes a (new_label processes (who n) a known) in
      let b : ℕ = newest processes (who n) known q in
      elim (cases_Bool (has (who n) q)) [
        | inl t ↦
            ap (number loc processes w) (primary_of_participant who n p q h t) ∙ ap (number_of processes a) (sym (label-new loc letters processes w over n l))
            ∙ sym (cond-true (has (who n) q) e ((known b).primary q) t)
        | inr f ↦ ap (number loc processes w) (primary-newest who n p q b h f (newest-at q p h)) ∙ sym (cond-false (has (who n) q) e ((known b).primary q) f)
      ]

  secondary-next : (p q r : ℕ) → has (who n) p ≡ true → (ids loc processes w (suc n) p).secondary q r ≡ new_secondary processes (who n) a known q r
  secondary-next p q r h =
      let e : ℕ = new_primary processes (who n) a known r in
      let b : ℕ = newest processes (who n) known q in
      elim (cases_Bool (has (who n) q)) [
        | inl t ↦ ap (number loc processes w) (secondary-own who n p q r h t) ∙ primary-next p r h
            ∙ sym (cond-true (has (who n) q) e ((known b).secondary q r) t)
        | inr f ↦ ap (number loc processes w) (secondary-newest who n p q r b h f (newest-at q p h))
            ∙ sym (cond-false (has (who n) q) e ((known b).secondary q r) f)
      ]

  tertiary-next : (p q r s : ℕ) → has (who n) p ≡ true → (ids loc processes w (suc n) p).tertiary q r s ≡ new_tertiary processes (who n) a known q r s
  tertiary-next p q r s h =
      let e : ℕ = new_secondary processes (who n) a known r s in
      let b : ℕ = newest processes (who n) known q in
      elim (cases_Bool (has (who n) q)) [
        | inl t ↦ ap (number loc processes w) (tertiary-own who n p q r s h t) ∙ secondary-next p r s h
            ∙ sym (cond-true (has (who n) q) e ((known b).tertiary q r s) t)
        | inr f ↦ ap (number loc processes w) (tertiary-newest who n p q r s b h f (newest-at q p h))
            ∙ sym (cond-false (has (who n) q) e ((known b).tertiary q r s) f)
      ]

  -- the updated numbers are those after the event
  next-at : (p : ℕ) → has (who n) p ≡ true → ids loc processes w (suc n) p ≡ updated processes (who n) a known
  next-at p h =
      same-ids (ids loc processes w (suc n) p) (updated processes (who n) a known)
      (λ q. primary-next p q h) (λ q r. secondary-next p q r h) (λ q r s. tertiary-next p q r s h)

  -- and who takes no part keeps its own
  kept-at : (p : ℕ) → has (who n) p ≡ false → ids loc processes w (suc n) p ≡ known p
  kept-at p h =
      same-ids (ids loc processes w (suc n) p) (known p)
      (λ q. ap (number loc processes w) (primary_kept who n p q h))
      (λ q r. ap (number loc processes w) (secondary-kept who n p q r h))
      (λ q r s. ap (number loc processes w) (tertiary-kept who n p q r s h))

-- after a word, by an event of the letter a
module _ (loc : ℕ → List ℕ) (letters processes : ℕ) (w : List ℕ) (a : ℕ) (alphabet : IsAlphabet loc letters processes) (word : IsWord letters w)
    (small : a < letters) where
  -- the longer word
  abbrev wa : List ℕ
  wa = w ++ a ∷ []

  number-before : (o : Option ℕ) → ((e : ℕ) → o ≡ Some e → e < length w) → number loc processes wa o ≡ number loc processes w o
  number-before None h = refl
  number-before (Some e) h =
      let l = h e refl in
      let x = agrees w a e l in
      let same : Agree loc letters processes (length w) wa w = record {
        first = word-over loc letters processes wa alphabet (word-next letters w a word small);
        second = word-over loc letters processes w alphabet word;
        in_first = omega (arith, length-next w a);
        in_second = omega arith;
        same = agrees w a;
      } in
      let y = label-same loc letters processes (length w) wa w e same l in
      cc

  -- so the numbers after its positions are the same
  ids-before : (p : ℕ) → ids loc processes wa (length w) p ≡ ids loc processes w (length w) p
  ids-before p =
      let n : ℕ = length w in
      let who = participants loc wa in
      let who' = participants loc w in
      let agree : (j : ℕ) → j < n → who j ≡ who' j = λ j k. ap loc (agrees w a j k) in
      same-ids (ids loc processes wa n p) (ids loc processes w n p)
      (λ q. number-before (primary who n p q) (λ e h. primary-below who n p q e (primary-sound who n p q e h))
      ∙ ap (number loc processes w) (primary-same who who' n p q agree))
      (λ q r. number-before (secondary who n p q r) (λ e h. secondary-below who n p q r e (secondary-sound who n p q r e h))
      ∙ ap (number loc processes w) (secondary-same who who' n p q r agree))
      (λ q r s. number-before (tertiary who n p q r s) (λ e h. tertiary-below who n p q r s e (tertiary-sound who n p q r s e h))
      ∙ ap (number loc processes w) (tertiary-same who who' n p q r s agree))

  known-before : ids loc processes wa (length w) ≡ ids loc processes w (length w)
  known-before = fun_ext ids-before

  pub label-after : new_label processes (loc a) a (ids loc processes w (length w)) ≡ label loc processes wa (length w)
  label-after =
      sym (ap (λ v. new_label processes (loc v) v (ids loc processes wa (length w))) (seam w a) ∙ ap (new_label processes (loc a) a) known-before)
      ∙ label-new loc letters processes wa (word-over loc letters processes wa alphabet (word-next letters w a word small)) (length w)
      (omega (arith, length-next w a))

  pub ids-after : (p : ℕ) → has (loc a) p ≡ true → ids loc processes wa (suc (length w)) p ≡ updated processes (loc a) a (ids loc processes w (length w))
  ids-after p h =
      next-at loc letters processes wa alphabet (word-next letters w a word small) (length w) (omega (arith, length-next w a)) p (at-seam loc w a p ∙ h)
      ∙ ap (λ v. updated processes (loc v) v (ids loc processes wa (length w))) (seam w a)
      ∙ ap (updated processes (loc a) a) known-before

  pub ids-kept : (p : ℕ) → has (loc a) p ≡ false → ids loc processes wa (suc (length w)) p ≡ ids loc processes w (length w) p
  ids-kept p h = kept-at loc letters processes wa alphabet (word-next letters w a word small) (length w) (omega (arith, length-next w a)) p
      (at-seam loc w a p ∙ h) ∙ ids-before p

  -- and so are the rows
  pub rows-after : (p : ℕ) → has (loc a) p ≡ true → rows_of processes (updated processes (loc a) a (ids loc processes w (length w)))
      ≡ rows_after loc processes wa p
  rows-after p h = ap (rows_of processes) (sym (ids-after p h)) ∙ ap (λ m. rows_of processes (ids loc processes wa m p)) (sym (length-next w a))

  pub rows-kept : (p : ℕ) → has (loc a) p ≡ false → rows_after loc processes w p ≡ rows_after loc processes wa p
  rows-kept p h = ap (rows_of processes) (sym (ids-kept p h)) ∙ ap (λ m. rows_of processes (ids loc processes wa m p)) (sym (length-next w a))

-- in the words of the laws
pub participants_update : ParticipantsUpdate
participants_update loc letters processes w a p alphabet word small h = ids-after loc letters processes w a alphabet word small p h

pub others_keep : OthersKeep
others_keep loc letters processes w a p alphabet word small h = ids-kept loc letters processes w a alphabet word small p h

pub new_label_is_label : NewLabelIsLabel
new_label_is_label loc letters processes w a alphabet word small = label-after loc letters processes w a alphabet word small

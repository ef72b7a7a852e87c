-- The number of an event tells it apart among the secondary entries of all processes.
use Rattle.std.proofs.Common.{◌≡◌, ◌≢◌, ℕ, suc, ◌+◌, ◌*◌, ◌^◌, ◌<◌, ◌≤◌, true, inl, inr, List, length, slice_index, Option, Some, sym, ap, subst, ◌∙◌, arith}
use Rattle.std.proofs.Math.Nat.{suc-mul, mul-le-mul_right}
use Rattle.std.proofs.lemmas.Bool.{cases_order}
use Rattle.za_alpha.specs.Words.{has}
use Rattle.za_order.specs.Views.{participants}
use Rattle.za_order.specs.Entries.{secondary}
use Rattle.za_order.specs.Labels.{least_participant, label, number_of, number}
use Rattle.za_order.specs.Laws.{NumbersAreBounded, NumbersTellApart}
use Rattle.za_order.proofs.Options.{option-cases}
use Rattle.za_order.proofs.Participants.{IsOver, word-over}
use Rattle.za_order.proofs.Views.{view-own}
use Rattle.za_order.proofs.Entries.{IsSecondStep, secondary-sound, secondary-below, tertiary-complete}
use Rattle.za_order.proofs.Maximal.{secondary-tertiary}
use Rattle.za_order.proofs.Steps.{secondary-at}
use Rattle.za_order.proofs.Labels.{least_participant-takes, label-free, labels_are_bounded}

-- of two letters the smaller has the smaller numbers
less-number : (m a b k l : ℕ) → k < m → a < b → 1 + a * m + k < 1 + b * m + l
less-number m a b k l h lt =
    let r : suc a * m ≤ b * m = mul-le-mul_right m lt in
    let s = suc-mul a m in
    omega arith

-- a number tells the letter and the label
pub number_of-parts : (processes a b k l : ℕ) → k ≤ processes ^ 3 → l ≤ processes ^ 3 → number_of processes a k ≡ number_of processes b l → (a ≡ b) × (k ≡ l)
number_of-parts processes a b k l hk hl e =
    elim (cases_order a b) [
      | inl same ↦ (same, (let s : a * (processes ^ 3 + 1) ≡ b * (processes ^ 3 + 1) = ap (λ v. v * (processes ^ 3 + 1)) same in omega arith))
      | inr o ↦ elim o [
        | inl lt ↦ absurd (let c = less-number (processes ^ 3 + 1) a b k l (omega arith) lt in omega arith)
        | inr gt ↦ absurd (let c = less-number (processes ^ 3 + 1) b a l k (omega arith) gt in omega arith)
      ]
    ]

module _ (loc : ℕ → List ℕ) (letters processes : ℕ) (w : List ℕ) (over : IsOver loc letters processes w) where
  -- of two secondary entries of one letter the earlier is avoided by the label of the later
  label-apart : (n u q r e f : ℕ) → n ≤ length w → IsSecondStep (participants loc w) n u q r e → e < f → f < n →
      slice_index w e ≡ slice_index w f → label loc processes w e ≢ label loc processes w f
  label-apart n u q r e f ln s lt lf same =
      let who = participants loc w in
      let o = secondary-at who f n e (omega arith) lt (record { process = u; first = q; second = r; steps = s }) in
      let x : ℕ = least_participant loc processes w f in
      let fx = least_participant-takes loc letters processes w over f (omega arith) in
      let ex : has (who e) x ≡ true = subst (λ a. has (loc a) x ≡ true) (sym same) fx in
      let t = secondary-tertiary who f o.process o.first o.second e x o.steps (view-own who f x e lt ex) in
      label-free loc letters processes w over f e (omega arith) (t.0, t.1, o.second, tertiary-complete who f x t.0 t.1 o.second e t.2) same

  -- secondary entries with one letter and one label are one event
  pub label-tells : (n u q r v s t e f : ℕ) → n ≤ length w → IsSecondStep (participants loc w) n u q r e → IsSecondStep (participants loc w) n v s t f →
      slice_index w e ≡ slice_index w f → label loc processes w e ≡ label loc processes w f → e ≡ f
  label-tells n u q r v s t e f l one two a b =
      elim (cases_order e f) [
        | inl same ↦ same
        | inr o ↦ elim o [
          | inl lt ↦ absurd (label-apart n u q r e f l one lt (secondary-below (participants loc w) n v s t f two) a b)
          | inr gt ↦ absurd (label-apart n v s t f e l two gt (secondary-below (participants loc w) n u q r e one) (sym a) (sym b))
        ]
      ]

  -- the same by numbers
  pub number-tells : (n u q r v s t e f : ℕ) → n ≤ length w → IsSecondStep (participants loc w) n u q r e → IsSecondStep (participants loc w) n v s t f →
      number loc processes w (Some e) ≡ number loc processes w (Some f) → e ≡ f
  number-tells n u q r v s t e f l one two h =
      let p = number_of-parts processes (slice_index w e) (slice_index w f) (label loc processes w e) (label loc processes w f)
      (labels_are_bounded loc processes w e) (labels_are_bounded loc processes w f) h in
      label-tells n u q r v s t e f l one two p.0 p.1

-- an event has another number than none
pub number-some : (loc : ℕ → List ℕ) (processes : ℕ) (w : List ℕ) (e : ℕ) → number loc processes w (Some e) ≢ 0
number-some loc processes w e h = omega arith

-- none, or events
pub numbers_tell_apart : NumbersTellApart
numbers_tell_apart loc letters processes w n p q r u s t alphabet word l h =
    let who = participants loc w in
    let one : Option ℕ = secondary who n p q r in
    let two : Option ℕ = secondary who n u s t in
    elim (option-cases one) [
      | inl none ↦ elim (option-cases two) [
        | inl empty ↦ none ∙ sym empty
        | inr f ↦ absurd (number-some loc processes w f.0 (sym (ap (number loc processes w) f.1) ∙ sym h ∙ ap (number loc processes w) none))
      ]
      | inr e ↦ elim (option-cases two) [
        | inl empty ↦ absurd (number-some loc processes w e.0 (sym (ap (number loc processes w) e.1) ∙ h ∙ ap (number loc processes w) empty))
        | inr f ↦
            let same = number-tells loc letters processes w (word-over loc letters processes w alphabet word) n p q r u s t e.0 f.0 l
            (secondary-sound who n p q r e.0 e.1) (secondary-sound who n u s t f.0 f.1)
            (sym (ap (number loc processes w) e.1) ∙ h ∙ ap (number loc processes w) f.1) in
            e.1 ∙ ap (λ v. Some v) same ∙ sym f.1
      ]
    ]

-- letter by letter
pub numbers_are_bounded : NumbersAreBounded
numbers_are_bounded loc letters processes w i alphabet word l =
    let a = slice_index w i in
    let below = (word-over loc letters processes w alphabet word).letter i l in
    let small = labels_are_bounded loc processes w i in
    let rows : suc a * (processes ^ 3 + 1) ≤ letters * (processes ^ 3 + 1) = mul-le-mul_right (processes ^ 3 + 1) below in
    let more = suc-mul a (processes ^ 3 + 1) in
    omega arith

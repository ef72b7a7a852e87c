-- Labels are free, least and bounded, and tell the secondary entries of one letter apart.
use Rattle.std.proofs.Common.{◌≡◌, ◌≢◌, ℕ, zero, suc, ◌*◌, ◌<◌, ◌≤◌, true, inl, inr, List, [], ◌∷◌, ◌==◌, length, slice_index, filter_map, flat_map, map, Some}
use Rattle.std.proofs.Common.{refl, sym, subst, ◌∙◌, arith, eq-eqb, eqb-true, length-append}
use Rattle.std.specs.List.{range_with_len}
use Rattle.std.proofs.Math.Seq.{get_or-append_seam}
use Rattle.std.proofs.lemmas.List.{get_or_append_left, length-map}
use Rattle.std.proofs.lemmas.List.FromFn.{length-range_with_len}
use Rattle.std.proofs.lemmas.List.Sums.{length-filter, count_by-le-length}
use Rattle.std.proofs.lemmas.Bool.{cases_eq, and_parts, and_from}
use Rattle.za_alpha.specs.Words.{has}
use Rattle.za_order.specs.Views.{participants}
use Rattle.za_order.specs.Entries.{tertiary, IsTertiary}
use Rattle.za_order.specs.Labels.{least_free, tertiary_entries, least_participant, rivals, labels, label}
use Rattle.za_order.specs.Locals.{is_event}
use Rattle.za_order.specs.Laws.{LabelIsFree, LabelIsLeast, LabelsAreBounded}
use Rattle.za_order.proofs.Options.{is_event-some, some-is_event}
use Rattle.za_alpha.proofs.Members.{has-filter}
use Rattle.za_order.proofs.Sets.{any-here, any-where, has-map, has-flat_map, has-filter_map, in-range}
use Rattle.za_order.proofs.Participants.{IsOver, word-over}
use Rattle.za_order.proofs.Entries.{IsThirdStep, primary-below, secondary-below, tertiary-sound, tertiary-below}
use Rattle.za_alpha.proofs.Least.{least-true, least-le}
use Rattle.za_order.proofs.Least.{least_free-le, least_free-free, least_free-least, length-flat_map-le, length-filter_map-le, cube}

module _ (who : ℕ → List ℕ) (processes n p : ℕ) where
  -- the list of tertiary entries has no other event
  listed-tertiary : (e : ℕ) → has (tertiary_entries who processes n p) e ≡ true → IsTertiary who n p e
  listed-tertiary e h =
      let range = range_with_len 0 processes in
      let third : ℕ → ℕ → List ℕ = λ q r. filter_map (λ s. tertiary who n p q r s) range in
      let q = any-where (λ q. has (flat_map (third q) range) e) range (sym (has-flat_map (λ q. flat_map (third q) range) range e) ∙ h) in
      let r = any-where (λ r. has (third q.0 r) e) range (sym (has-flat_map (third q.0) range e) ∙ q.2) in
      let s = any-where (λ s. is_event (tertiary who n p q.0 r.0 s) e) range (sym (has-filter_map (λ s. tertiary who n p q.0 r.0 s) range e) ∙ r.2) in
      (q.0, r.0, s.0, is_event-some (tertiary who n p q.0 r.0 s.0) e s.2)

  -- and each that is of processes in range
  tertiary-listed : (q r s e : ℕ) → q < processes → r < processes → s < processes → tertiary who n p q r s ≡ Some e →
      has (tertiary_entries who processes n p) e ≡ true
  tertiary-listed q r s e lq lr ls h =
      let range = range_with_len 0 processes in
      let third : ℕ → ℕ → List ℕ = λ q r. filter_map (λ s. tertiary who n p q r s) range in
      has-flat_map (λ q. flat_map (third q) range) range e
      ∙ any-here (λ q. has (flat_map (third q) range) e) range q (in-range processes q lq)
      (has-flat_map (third q) range e
      ∙ any-here (λ r. has (third q r) e) range r (in-range processes r lr)
      (has-filter_map (λ s. tertiary who n p q r s) range e
      ∙ any-here (λ s. is_event (tertiary who n p q r s) e) range s (in-range processes s ls) (some-is_event (tertiary who n p q r s) e h)))

  -- there are at most as many as triples of processes
  length-tertiary_entries-le : length (tertiary_entries who processes n p) ≤ processes * (processes * processes)
  length-tertiary_entries-le =
      let range = range_with_len 0 processes in
      let len = length-range_with_len 0 processes in
      let third : ℕ → ℕ → List ℕ = λ q r. filter_map (λ s. tertiary who n p q r s) range in
      let inner = λ (q : ℕ). length-flat_map-le (third q) processes range (λ r. omega (arith, length-filter_map-le (λ s. tertiary who n p q r s) range, len)) in
      subst (λ k. length (tertiary_entries who processes n p) ≤ k * (processes * processes)) len
      (length-flat_map-le (λ q. flat_map (third q) range) (processes * processes) range
      (λ q. subst (λ k. length (flat_map (third q) range) ≤ k * processes) len (inner q)))

module _ (loc : ℕ → List ℕ) (processes : ℕ) (w : List ℕ) where
  -- the labels that the rivals of the event n have
  abbrev taken : ℕ → List ℕ
  taken n = map (λ j. slice_index (labels loc processes w n) j) (rivals loc processes w n)

  -- there are n labels of n events
  length-labels : (n : ℕ) → length (labels loc processes w n) ≡ n
  length-labels zero = refl
  length-labels (suc n) = let ih = length-labels n in omega (arith, length-append (labels loc processes w n) (least_free (taken n) ∷ []))

  -- the label is the least that no rival has
  label-next : (n : ℕ) → label loc processes w n ≡ least_free (taken n)
  label-next n =
      subst (λ k. slice_index (labels loc processes w (suc n)) k ≡ least_free (taken n)) (length-labels n)
      (get_or-append_seam (labels loc processes w n) (least_free (taken n)) [] 0)

  -- later labels change none
  label-kept : (n i : ℕ) → i < n → slice_index (labels loc processes w n) i ≡ label loc processes w i
  label-kept zero i l = absurd (omega arith)
  label-kept (suc n) i l =
      elim (cases_eq i n) [
        | inl e ↦ subst (λ k. slice_index (labels loc processes w (suc k)) i ≡ label loc processes w i) e refl
        | inr ne ↦
            get_or_append_left (labels loc processes w n) (least_free (taken n) ∷ []) 0 i (omega (arith, length-labels n))
            ∙ label-kept n i (omega arith)
      ]

  -- no rival has the label
  label-differs : (n j : ℕ) → j < n → has (rivals loc processes w n) j ≡ true → label loc processes w j ≢ label loc processes w n
  label-differs n j l h e =
      let old : ℕ → ℕ = λ k. slice_index (labels loc processes w n) k in
      let same : old j ≡ least_free (taken n) = label-kept n j l ∙ e ∙ label-next n in
      let yes = has-map old (rivals loc processes w n) (least_free (taken n))
      ∙ any-here (λ k. old k == least_free (taken n)) (rivals loc processes w n) j h (eq-eqb (old j) (least_free (taken n)) same) in
      let no = least_free-free (taken n) in
      cc

  -- a label is at most the number of tertiary entries
  pub label-le : (i : ℕ) → label loc processes w i ≤ processes * (processes * processes)
  label-le i =
      let p = least_participant loc processes w i in
      let all = tertiary_entries (participants loc w) processes i p in
      let a = least_free-le (taken i) in
      let b = length-map (rivals loc processes w i) (λ j. slice_index (labels loc processes w i) j) in
      let c = length-filter (λ j. slice_index w j == slice_index w i) all in
      let d = count_by-le-length (λ j. slice_index w j == slice_index w i) all in
      let e = length-tertiary_entries-le (participants loc w) processes i p in
      let f = label-next i in
      omega arith

  -- a smaller label is one of a rival
  pub label-least : (i k : ℕ) → k < label loc processes w i →
      (e : ℕ) × IsTertiary (participants loc w) i (least_participant loc processes w i) e × (slice_index w e ≡ slice_index w i) × (label loc processes w e ≡ k)
  label-least i k l =
      let who = participants loc w in
      let x : ℕ = least_participant loc processes w i in
      let old : ℕ → ℕ = λ j. slice_index (labels loc processes w i) j in
      let n = label-next i in
      let m = any-where (λ j. old j == k) (rivals loc processes w i)
      (sym (has-map old (rivals loc processes w i) k) ∙ least_free-least (taken i) k (omega arith)) in
      let f = and_parts (slice_index w m.0 == slice_index w i) (has (tertiary_entries who processes i x) m.0)
      (sym (has-filter (λ j. slice_index w j == slice_index w i) (tertiary_entries who processes i x) m.0) ∙ m.1) in
      let t = listed-tertiary who processes i x m.0 f.1 in
      let below = tertiary-below who i x t.0 t.1 t.2 m.0 (tertiary-sound who i x t.0 t.1 t.2 m.0 t.3) in
      (m.0, t, eqb-true (slice_index w m.0) (slice_index w i) f.0, sym (label-kept i m.0 below) ∙ eqb-true (old m.0) k m.2)

module _ (loc : ℕ → List ℕ) (letters processes : ℕ) (w : List ℕ) (over : IsOver loc letters processes w) where
  -- the least participant of an event takes part in it
  pub least_participant-takes : (i : ℕ) → i < length w → has (participants loc w i) (least_participant loc processes w i) ≡ true
  least_participant-takes i l =
      let some = over.some i l in
      let below = over.below i some.0 l some.1 in
      let min = least-le (λ p. has (participants loc w i) p) processes some.0 some.1 in
      least-true (λ p. has (participants loc w i) p) processes (omega arith)

  -- a tertiary entry of the event's letter is a rival
  tertiary-rival : (i x q r s e : ℕ) → i < length w → x ≡ least_participant loc processes w i → IsThirdStep (participants loc w) i x q r s e →
      tertiary (participants loc w) i x q r s ≡ Some e →
      slice_index w e ≡ slice_index w i → has (rivals loc processes w i) e ≡ true
  tertiary-rival i x q r s e l isx t h same =
      let who = participants loc w in
      let a = primary-below who i x q t.second.event t.second.first in
      let b = secondary-below who i x q r t.event t.second in
      let c = tertiary-below who i x q r s e t in
      has-filter (λ j. slice_index w j == slice_index w i) (tertiary_entries who processes i (least_participant loc processes w i)) e
      ∙ and_from (slice_index w e == slice_index w i) (has (tertiary_entries who processes i (least_participant loc processes w i)) e)
      (eq-eqb (slice_index w e) (slice_index w i) same)
      (subst (λ y. has (tertiary_entries who processes i y) e ≡ true) isx
      (tertiary-listed who processes i x q r s e
      (over.below t.second.event q (omega arith) t.second.first.takes) (over.below t.event r (omega arith) t.second.past.takes)
      (over.below e s (omega arith) t.past.takes) h))

  -- the label is none of a tertiary entry of its letter
  pub label-free : (i e : ℕ) → i < length w → IsTertiary (participants loc w) i (least_participant loc processes w i) e → slice_index w e ≡ slice_index w i →
      label loc processes w e ≢ label loc processes w i
  label-free i e l t same =
      let x : ℕ = least_participant loc processes w i in
      let k = tertiary-sound (participants loc w) i x t.0 t.1 t.2 e t.3 in
      label-differs loc processes w i e (tertiary-below (participants loc w) i x t.0 t.1 t.2 e k) (tertiary-rival i x t.0 t.1 t.2 e l refl k t.3 same)

-- for a word of an alphabet
pub label_is_free : LabelIsFree
label_is_free loc letters processes w i e alphabet word = label-free loc letters processes w (word-over loc letters processes w alphabet word) i e

-- without premise
pub label_is_least : LabelIsLeast
label_is_least = label-least

-- in the words of the law
pub labels_are_bounded : LabelsAreBounded
labels_are_bounded loc processes w i = let h = label-le loc processes w i in omega (arith, cube processes)

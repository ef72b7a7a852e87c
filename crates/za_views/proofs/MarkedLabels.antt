-- What marked events give: the label of the next.
use Rattle.std.proofs.Common.{◌≡◌, ℕ, zero, suc, ◌<◌, ◌≤◌, Bool, true, not, ◌==◌, inl, inr, List, length, slice_index, Option, Some, None, option_and_then}
use Rattle.std.proofs.Common.{refl, sym, ap, subst, ◌∙◌, arith, eqb-true, eq-eqb}
use Rattle.std.specs.List.{range_with_len}
use Rattle.std.proofs.Math.Nat.{mul-le-mul}
use Rattle.std.proofs.lemmas.Bool.{and_parts, and_from, cases_Bool, not_from_true, not_from_false, ltb-true}
use Rattle.za_alpha.specs.Limits.{most_processes}
use Rattle.za_alpha.proofs.Least.{least-is}
use Rattle.za_alpha.proofs.Members.{has-range-below}
use Rattle.za_order.specs.Views.{participants}
use Rattle.za_order.specs.Entries.{tertiary, IsTertiary}
use Rattle.za_order.specs.Labels.{least_participant, label}
use Rattle.za_order.proofs.Sets.{any-here, any-where, in-range}
use Rattle.za_order.proofs.Participants.{IsOver}
use Rattle.za_order.proofs.Entries.{tertiary-sound, primary-below, secondary-below, tertiary-below}
use Rattle.za_order.proofs.Labels.{label-le, label-least, label-free, least_participant-takes}
use Rattle.za_ids.specs.Limits.{most_labels}
use Rattle.za_views.specs.declared.events.Event.{Event}
use Rattle.za_views.specs.Private.Events.{entry, known, event_at, AreEvents, AreLabelled}
use Rattle.za_views.specs.Private.Taken.{is_label_taken, least_untaken}
use Rattle.za_views.specs.Private.Kept.{AreKept}
use Rattle.za_views.proofs.MarkedEntries.{first-is, second-is, third-is, past-below}

-- one step: from an event to the one that it knows of q
abbrev step : List Event → ℕ → Option ℕ → Option ℕ
step events q o = option_and_then (λ e. known events e q) o

module _ (events : List Event) (processes letter k : ℕ) where
  -- three steps lead from o to the event e of the letter, whose label is k
  record IsWalk (o : Option ℕ) (e : ℕ) : Type 0 where
    pub first : ℕ
    pub second : ℕ
    pub third : ℕ
    pub first_below : first < processes
    pub second_below : second < processes
    pub third_below : third < processes
    pub leads : step events third (step events second (step events first o)) ≡ Some e
    pub letter_is : (event_at events e).letter.0 ≡ letter
    pub label_is : (event_at events e).label ≡ k

  -- what is taken in one step more is taken from where some step leads
  step-taken : (steps : ℕ) (o : Option ℕ) → is_label_taken events processes letter k (suc steps) o ≡ true → (q : ℕ) × (q < processes)
      × (is_label_taken events processes letter k steps (step events q o) ≡ true)
  step-taken steps None h = cc
  step-taken steps (Some e) h =
      let a = any-where (λ q. is_label_taken events processes letter k steps (known events e q)) (range_with_len 0 processes) h in
      (a.0, ltb-true a.0 processes (sym (has-range-below processes a.0) ∙ a.1), a.2)

  -- nothing is taken from none
  taken-none : (steps : ℕ) → is_label_taken events processes letter k steps None ≡ true → ⊥
  taken-none zero h = cc
  taken-none (suc steps) h = cc

  -- and what is taken from where a step leads is taken
  taken-step : (steps q : ℕ) (o : Option ℕ) → q < processes → is_label_taken events processes letter k steps (step events q o) ≡ true →
      is_label_taken events processes letter k (suc steps) o ≡ true
  taken-step steps q None l h = absurd (taken-none steps h)
  taken-step steps q (Some e) l h =
      any-here (λ r. is_label_taken events processes letter k steps (known events e r)) (range_with_len 0 processes) q (in-range processes q l) h

  -- in no step the event itself is taken
  taken-here : (o : Option ℕ) → is_label_taken events processes letter k zero o ≡ true → (e : ℕ) × (o ≡ Some e) × ((event_at events e).letter.0 ≡ letter)
      × ((event_at events e).label ≡ k)
  taken-here None h = cc
  taken-here (Some e) h =
      let b = and_parts ((event_at events e).letter.0 == letter) ((event_at events e).label == k) h in
      (e, refl, eqb-true (event_at events e).letter.0 letter b.0, eqb-true (event_at events e).label k b.1)

  -- and back
  here-taken : (o : Option ℕ) (e : ℕ) → o ≡ Some e → (event_at events e).letter.0 ≡ letter → (event_at events e).label ≡ k →
      is_label_taken events processes letter k zero o ≡ true
  here-taken None e h a b = cc
  here-taken (Some i) e h a b =
      let same : i ≡ e = cc in
      subst (λ j. is_label_taken events processes letter k zero (Some j) ≡ true) (sym same)
      (and_from ((event_at events e).letter.0 == letter) ((event_at events e).label == k) (eq-eqb (event_at events e).letter.0 letter a)
      (eq-eqb (event_at events e).label k b))

  -- what is taken in three steps is at the end of a walk
  walk-taken : (o : Option ℕ) → is_label_taken events processes letter k 3 o ≡ true → (e : ℕ) × IsWalk o e
  walk-taken o h =
      let q = step-taken 2 o h in
      let r = step-taken 1 (step events q.0 o) q.2 in
      let s = step-taken 0 (step events r.0 (step events q.0 o)) r.2 in
      let e = taken-here (step events s.0 (step events r.0 (step events q.0 o))) s.2 in (
        e.0,
        record {
          first = q.0;
          second = r.0;
          third = s.0;
          first_below = q.1;
          second_below = r.1;
          third_below = s.1;
          leads = e.1;
          letter_is = e.2;
          label_is =
              e.3;
        },
      )

  -- and back
  taken-walk : (o : Option ℕ) (e : ℕ) → IsWalk o e → is_label_taken events processes letter k 3 o ≡ true
  taken-walk o e w =
      taken-step 2 w.first o w.first_below
      (taken-step 1 w.second (step events w.first o) w.second_below
      (taken-step 0 w.third (step events w.second (step events w.first o)) w.third_below
      (here-taken (step events w.third (step events w.second (step events w.first o))) e w.leads w.letter_is w.label_is)))

module _ {loc : ℕ → List ℕ} {processes : ℕ} {w : List ℕ} {n : ℕ} {events : List Event} {own : List (Option ℕ)} (marked : AreKept loc processes w n events own)
  where
    -- three steps from the last event of a process lead to its tertiary entry
    walk-is : (x q r s : ℕ) → x < processes → q < processes → r < processes → s < processes →
        step events s (step events r (step events q (entry own x))) ≡ tertiary (participants loc w) n x q r s
    walk-is x q r s lx lq lr ls =
        ap (λ o. step events s (step events r o)) (first-is marked x q lx lq)
        ∙ ap (step events s) (second-is marked x q r lr)
        ∙ third-is marked x q r s ls

    -- what is taken in three steps is the label of a tertiary entry
    taken-sound : (x k letter : ℕ) → x < processes → is_label_taken events processes letter k 3 (entry own x) ≡ true →
        (e : ℕ) × IsTertiary (participants loc w) n x e × (slice_index w e ≡ letter) × (label loc processes w e ≡ k)
    taken-sound x k letter lx h =
        let t = walk-taken events processes letter k (entry own x) h in
        let walk = t.1 in
        let is : tertiary (participants loc w) n x walk.first walk.second walk.third ≡ Some t.0 =
        sym (walk-is x walk.first walk.second walk.third lx walk.first_below walk.second_below walk.third_below) ∙ walk.leads in
        let below = tertiary-below (participants loc w) n x walk.first walk.second walk.third t.0
        (tertiary-sound (participants loc w) n x walk.first walk.second walk.third t.0 is) in
        (t.0, (walk.first, walk.second, walk.third, is), sym (marked.letters t.0 below) ∙ walk.letter_is, sym (marked.labels t.0 below) ∙ walk.label_is)

    -- and each such label is taken
    taken-complete : {letters : ℕ} (x k letter e : ℕ) → IsOver loc letters processes w → n ≤ length w → x < processes → IsTertiary (participants loc w) n x e →
        slice_index w e ≡ letter → label loc processes w e ≡ k →
        is_label_taken events processes letter k 3 (entry own x) ≡ true
    taken-complete x k letter e over ln lx t a b =
        let third = tertiary-sound (participants loc w) n x t.0 t.1 t.2 e t.3 in
        let b1 = primary-below (participants loc w) n x t.0 third.second.event third.second.first in
        let b2 = secondary-below (participants loc w) n x t.0 t.1 third.event third.second in
        let b3 = tertiary-below (participants loc w) n x t.0 t.1 t.2 e third in
        let lq = over.below third.second.event t.0 (omega arith) third.second.first.takes in
        let lr = over.below third.event t.1 (omega arith) third.second.past.takes in
        let ls = over.below e t.2 (omega arith) third.past.takes in
        taken-walk events processes letter k (entry own x) e (record {
          first = t.0;
          second = t.1;
          third = t.2;
          first_below = lq;
          second_below = lr;
          third_below = ls;
          leads = walk-is x t.0 t.1 t.2 lx lq lr ls ∙ t.3;
          letter_is = marked.letters e b3 ∙ a;
          label_is = marked.labels e b3 ∙ b;
        })

    -- labels are below the bound
    label-below : (i : ℕ) → processes ≤ most_processes → label loc processes w i < most_labels
    label-below i few =
        let le = label-le loc processes w i in
        let square = mul-le-mul few few in
        let cube = mul-le-mul few square in omega arith

    -- so the events are labelled as the search for a label needs it
    pub are-labelled : processes ≤ most_processes → AreLabelled most_labels processes events
    are-labelled few = record {
      rows = λ e l. subst (λ m. AreEvents m processes (event_at events e).past) (sym marked.count) (past-below marked e (let c = marked.count in omega arith));
      labels = λ e l. let b = label-below e few in let same = marked.labels e (let c = marked.count in omega arith) in omega arith;
    }

    -- the first that is not taken is the label of the event n
    pub least-untaken-is : {letters : ℕ} (x : ℕ) → IsOver loc letters processes w → n < length w → processes ≤ most_processes →
        x ≡ least_participant loc processes w n →
        least_untaken events processes (slice_index w n) (entry own x) ≡ label loc processes w n
    least-untaken-is {letters = letters} x over ln few isx =
        let small = label-below n few in
        let takes = least_participant-takes loc letters processes w over n ln in
        let lx : x < processes = let b = over.below n (least_participant loc processes w n) ln takes in omega arith in
        let taken : ℕ → Bool = λ k. is_label_taken events processes (slice_index w n) k 3 (entry own x) in
        let k : ℕ = label loc processes w n in
        sym (least-is (λ k. not (taken k)) most_labels k small
        (λ j less.
        let e = label-least loc processes w n j less in
        let t : IsTertiary (participants loc w) n x e.0 = subst (λ y. IsTertiary (participants loc w) n y e.0) (sym isx) e.1 in
        not_from_true (taken j) (taken-complete x j (slice_index w n) e.0 over (omega arith) lx t e.2 e.3))
        (elim (cases_Bool (taken k)) [
          | inr f ↦ not_from_false (taken k) f
          | inl found ↦
              let e = taken-sound x k (slice_index w n) lx found in
              let t : IsTertiary (participants loc w) n (least_participant loc processes w n) e.0 =
              subst (λ y. IsTertiary (participants loc w) n y e.0) isx e.1 in
              absurd (label-free loc letters processes w over n e.0 ln t e.2 e.3)
        ]))

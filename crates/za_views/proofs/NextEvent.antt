-- Marked events with one event more.
use Rattle.std.proofs.Common.{◌≡◌, ℕ, suc, ◌<◌, inl, inr, List, [], ◌∷◌, ◌++◌, length, slice_index, Option, Some, sym, ap, subst, ◌∙◌, arith, if◌then◌else◌}
use Rattle.std.proofs.lemmas.Bool.{cases_eq, cases_Bool, cond-true, cond-false}
use Rattle.std.proofs.lemmas.List.{get_or_append_left, get_or_push, length_push}
use Rattle.za_alpha.specs.Words.{has}
use Rattle.za_order.specs.Views.{participants}
use Rattle.za_order.specs.Entries.{primary, last_in_past}
use Rattle.za_order.specs.Labels.{label}
use Rattle.za_order.proofs.Participants.{IsOver}
use Rattle.za_order.proofs.Steps.{primary_of_participant, primary_kept}
use Rattle.za_views.specs.declared.events.Event.{Event}
use Rattle.za_views.specs.Private.Events.{no_event, event_at, entry, known_by}
use Rattle.za_views.specs.Private.Newest.{IsJoined}
use Rattle.za_views.specs.Private.Kept.{AreKept}
use Rattle.za_order.proofs.Prefixes.{Agree, primary-same, last-same, label-same}
use Rattle.za_views.proofs.Knowledge.{joined-is}
use Rattle.za_views.proofs.MarkedEntries.{first-is}

-- the events that a word has are those of a longer one
pub marked-longer : {loc : ℕ → List ℕ} {letters processes : ℕ} {w v : List ℕ} {n : ℕ} {events : List Event} {own : List (Option ℕ)} →
    AreKept loc processes w n events own → Agree loc letters processes n w v → AreKept loc processes v n events own
marked-longer {loc = loc} {letters = letters} {processes = processes} {w = w} {v = v} {n = n} marked agree =
    let same : (j : ℕ) → j < n → participants loc w j ≡ participants loc v j = λ j l. ap loc (agree.same j l) in
    record {
      count = marked.count;
      letters = λ i l. marked.letters i l ∙ agree.same i l;
      labels = λ i l. marked.labels i l ∙ label-same loc letters processes n w v i agree l;
      pasts = λ i q l lq. marked.pasts i q l lq ∙ last-same (participants loc w) (participants loc v) n i q l same;
      last = λ p l. marked.last p l ∙ primary-same (participants loc w) (participants loc v) n p p same;
    }

-- the event is the event n of the word, and the row has the last events after it
pub record IsNext (loc : ℕ → List ℕ) (processes : ℕ) (w : List ℕ) (n : ℕ) (events : List Event) (own : List (Option ℕ)) (event : Event)
    (after : List (Option ℕ)) : Type 0 where
  pub letter : event.letter.0 ≡ slice_index w n
  pub labelled : event.label ≡ label loc processes w n
  pub past : (q : ℕ) → q < processes → IsJoined (participants loc w n) processes n q (known_by events own q) (entry event.past q)
  pub last : (p : ℕ) → p < processes → entry after p ≡ (if has (participants loc w n) p then Some n else entry own p)

module _ {loc : ℕ → List ℕ} {letters processes : ℕ} {w : List ℕ} {n : ℕ} {events : List Event} {own : List (Option ℕ)} {event : Event} {after : List (Option ℕ)}
    (over : IsOver loc letters processes w) (long : n < length w)
    (marked : AreKept loc processes w n events own) (next : IsNext loc processes w n events own event after) where
  -- the events before stay
  event-before : (i : ℕ) → i < n → event_at (events ++ event ∷ []) i ≡ event_at events i
  event-before i l = get_or_append_left events (event ∷ []) no_event i (let c = marked.count in omega arith)

  -- what holds of each event before and of the last
  each-event : (P : ℕ → Event → Type 0) → ((i : ℕ) → i < n → P i (event_at events i)) → P n event → (i : ℕ) → i < suc n →
      P i (event_at (events ++ event ∷ []) i)
  each-event P before here i l =
      elim (cases_eq i n) [
        | inl same ↦ subst (λ k. P k (event_at (events ++ event ∷ []) k)) (sym same) (subst (P n) (sym (get_or_push events event no_event n marked.count)) here)
        | inr other ↦ let b : i < n = omega arith in subst (P i) (sym (event-before i b)) (before i b)
      ]

  -- what the event knows is what the definition says
  past-is : (q : ℕ) → q < processes → entry event.past q ≡ last_in_past (participants loc w) n q
  past-is q lq =
      let p = over.some n long in
      joined-is (participants loc w) n p.0 q p.1 processes (known_by events own q) (entry event.past q) (λ s t. over.below n s long t)
      (λ s l. first-is marked s q l lq) (next.past q lq)

  -- the last event of each process
  last-is : (p : ℕ) → p < processes → entry after p ≡ primary (participants loc w) (suc n) p p
  last-is p l =
      elim (cases_Bool (has (participants loc w n) p)) [
        | inl t ↦ next.last p l ∙ cond-true (has (participants loc w n) p) (Some n) (entry own p) t
            ∙ sym (primary_of_participant (participants loc w) n p p t t)
        | inr f ↦
            next.last p l ∙ cond-false (has (participants loc w n) p) (Some n) (entry own p) f ∙ marked.last p l
            ∙ sym (primary_kept (participants loc w) n p p f)
      ]

  -- so the events are marked
  pub marked-next : AreKept loc processes w (suc n) (events ++ event ∷ []) after
  marked-next = record {
    count = let c = marked.count in omega (arith, length_push events event);
    letters = each-event (λ i e. e.letter.0 ≡ slice_index w i) marked.letters next.letter;
    labels = each-event (λ i e. e.label ≡ label loc processes w i) marked.labels next.labelled;
    pasts = λ i q l lq.
        each-event (λ j e. entry e.past q ≡ last_in_past (participants loc w) j q) (λ j k. marked.pasts j q k lq) (past-is q lq) i l;
    last = last-is;
  }

-- What one process does in one hold, table by table.
use Rattle.std.proofs.Common.{◌≡◌, ◌↔◌, IsTrue, ℕ, ◌<◌, true, false, not, ◌&&◌, inl, inr, List, [], length, set, refl, sym, ap, ◌∙◌, arith, Option, Some}
use Rattle.std.proofs.Common.{None, get_or-set_same}
use Rattle.std.specs.List.{slice_get}
use Rattle.std.proofs.lemmas.Bool.{cases_lt, cases_eq, cases_Bool}
use Rattle.std.proofs.lemmas.Option.{slice_get_past, none-some}
use Rattle.za_alpha.specs.Words.{has}
use Rattle.za_alpha.specs.declared.procs.Procs.{Procs}
use Rattle.za_alpha.specs.Procs.{members}
use Rattle.za_shared.specs.Records.{Records}
use Rattle.za_machine.specs.Machine.{is_in, fired_by, next, is_complete, arrive, fire, IsAllowed, Arrive, End, IsMachineState}
use Rattle.za_machine.specs.Private.Standing.{IsSound}
use Rattle.za_machine.proofs.States.{reached-sound, reached_left, at-without, not_both}
use Rattle.za_table.specs.Tables.{TableState}
use Rattle.za_hall.specs.Own.{machine, arrives, ends_script, takes_up, settles, OwnTakeUp}
use Rattle.za_machine.specs.Hands.{hand}
use Rattle.za_hall.specs.Places.{places}
use Rattle.za_table.specs.Answers.{AreMissing}
use Rattle.za_hall.specs.Rule.{IsFit, IsCovered}
use Rattle.za_hall.specs.Steps.{hand_of}
use Rattle.za_hall.specs.Answers.{Waits, IsLast}
use Rattle.za_hall.proofs.Letters.{parts, places_own, length_places}
use Rattle.za_hall.proofs.Events.{hands_size, only, hand_same, hand_other, hand_none, hand_has, hand_one, own_covered, absent_free}

get_within : (script : List ℕ) (n a : ℕ) → slice_get script n ≡ Some a → n < length script
get_within script n a e = elim (cases_lt n (length script)) [
  | inl l ↦ l
  | inr g ↦ absurd (none-some a (sym (slice_get_past script n g) ∙ e))
]

module _ (p : ℕ) (t : TableState) (fit : IsFit (machine t)) (r : IsMachineState (machine t) t.state) (cov : IsCovered t)
    (inside : p < (machine t).processes) where
  sound : IsSound (machine t) t.state
  sound = reached-sound (machine t) t.state r

  -- the next letter is one of the process
  pub next_own : (a : ℕ) → next (machine t) t.state.journal p ≡ Some a → (a < (machine t).letters) × (has ((machine t).loc a) p ≡ true)
  next_own a e = fit.own p (fired_by (machine t) t.state.journal p) a e

  pub may_end : is_in t.state.ended p ≡ false → next (machine t) t.state.journal p ≡ None → IsAllowed (machine t) t.state (End p)
  may_end still e = (inside, still, (reached_left (machine t) t.state p r).0 e)

  pub may_arrive : (a : ℕ) → is_in t.state.arrived p ≡ false → next (machine t) t.state.journal p ≡ Some a → IsAllowed (machine t) t.state (Arrive p)
  may_arrive a away e = (inside, away, get_within ((machine t).scripts p) (fired_by (machine t) t.state.journal p) a e)

  pub has_ended : is_in (ends_script p t).state.ended p ≡ true
  has_ended = get_or-set_same t.state.ended p true false (let e = sound.ended_size in omega arith)

  pub has_arrived : is_in (arrives p t).state.arrived p ≡ true
  has_arrived = get_or-set_same t.state.arrived p true false (let e = sound.arrived_size in omega arith)

  -- who has no letter in hand and waits
  pub waits_on : (a : ℕ) (missing : Procs) (by : Option ℕ) → ((b : ℕ) → hand t.hands b ≡ Some p → ⊥) → is_in t.state.arrived p ≡ true → next
      (machine t) t.state.journal p ≡ Some a
      → AreMissing (machine t) t.state a missing → ((members missing ≡ []) ↔ IsTrue (is_complete (machine t) t.state a)) → by ≡ hand t.hands a
      → Waits p a missing by t
  waits_on a missing by free here nxt set none is = record {
    arrived = here;
    next_is = nxt;
    missing_is = set;
    by_is = is;
    other = λ e. let k = cov.taken a (next_own a nxt).0 (none.0 e) in (k.0, is ∙ k.1, λ (same : k.0 ≡ p). free a (k.1 ∙ ap Some same));
    none = λ q e. none.1 (only cov a q (sym is ∙ e)).1;
  }

  -- a letter that the arrival is to complete is in nobody's hand
  pub no_hand : (a : ℕ) → is_in t.state.arrived p ≡ false → next (machine t) t.state.journal p ≡ Some a → hand t.hands a ≡ None
  no_hand a away nxt = go (hand t.hands a) refl
    where
      go : (o : Option ℕ) → hand t.hands a ≡ o → o ≡ None
      go None e = refl
      go (Some q) e = absurd (absent_free t fit cov p a q away (next_own a nxt).1 e)

  pub waits_short : (a : ℕ) (missing : Procs) → is_in t.state.arrived p ≡ false → next (machine t) t.state.journal p ≡ Some a
      → AreMissing (machine t) (arrive p t.state) a missing → ¬ (members missing ≡ []) → Waits p a missing None (arrives p t)
  waits_short a missing away nxt set some_missing = record {
    arrived = has_arrived;
    next_is = nxt;
    missing_is = set;
    by_is = sym (no_hand a away nxt);
    other = λ e. absurd (some_missing e);
    none = λ q e. absurd (none-some q e);
  }

  -- a letter is taken up
  pub in_hand : (a : ℕ) → next (machine t) t.state.journal p ≡ Some a → hand (takes_up a p (arrives p t)).hands a ≡ Some p
  in_hand a nxt = hand_same t.hands a (Some p) (let l = (next_own a nxt).0 in let e = hands_size cov in omega arith)

  pub found_in_hand : (a : ℕ) → is_in t.state.arrived p ≡ false → next (machine t) t.state.journal p ≡ Some a → is_complete (machine t)
      (arrive p t.state) a ≡ true → hand_of (takes_up a p (arrives p t)) p ≡ Some a
  found_in_hand a away nxt full = hand_has p (takes_up a p (arrives p t)) (own_covered p t (takes_up a p (arrives p t)) fit cov
      (OwnTakeUp a (may_arrive a away nxt) nxt full)) a (in_hand a nxt)

  -- a letter in hand is fired
  module _ (a told : ℕ) (rs : Records) (mine : hand t.hands a ≡ Some p) where
    pub in_range : a < (machine t).letters
    in_range = (only cov a p mine).0

    pub is_here : is_in t.state.arrived p ≡ true
    is_here = let o = only cov a p mine in (parts (machine t) t.state a p o.1 o.2).0

    pub fired_last : fired_by (machine t) t.state.journal p ≡ told → IsLast p told (length t.state.journal) (settles a rs t)
    fired_last as_many = (
      places (machine t) p t.state.journal,
      places_own (machine t) p a t.state.journal (only cov a p mine).2,
      length_places
          (machine t) p t.state.journal ∙ as_many,
    )

    pub is_away : is_in (settles a rs t).state.arrived p ≡ false
    is_away = at-without ((machine t).loc a) t.state.arrived p ∙ (λ i. is_here i && not ((only cov a p mine).2 i))

    pub not_ended : is_in (settles a rs t).state.ended p ≡ false
    not_ended = elim (cases_Bool (is_in t.state.ended p)) [ inl e ↦ absurd (not_both (machine t) t.state sound p is_here e) | inr f ↦ f ]

    pub out_of_hand : hand_of (settles a rs t) p ≡ None
    out_of_hand = hand_none p (settles a rs t) (λ b e. elim (cases_eq b a) [
      | inl same ↦ none-some p (sym (ap (hand (set t.hands a None)) same ∙ hand_same t.hands a None
          (let l = in_range in let z = hands_size cov in omega arith)) ∙ e)
      | inr ne ↦ ne (hand_one p t cov b a (sym (hand_other t.hands a b None ne) ∙ e) mine)
    ])

-- a settling, field by field
pub settled_is : (t d : TableState) (a : ℕ) → d.given ≡ t.given → d.state ≡ fire (machine t).loc a t.state → d.hands ≡ set t.hands a None
    → d ≡ settles a d.shared t
settled_is t d a g s h = λ i. record { given = g i; state = s i; hands = h i; shared = d.shared }

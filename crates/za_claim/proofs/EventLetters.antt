-- Letters of claimed events.
use Rattle.std.proofs.Common.{◌≡◌, ℕ, ◌+◌, ◌<◌, List, [], ◌∷◌, ◌++◌, length, get_or, slice_index, take, subst, ap, ◌∙◌, arith}
use Rattle.std.proofs.lemmas.List.{get_or-map, length-map, take_more}
use Rattle.std.proofs.lemmas.List.Elements.{All-get_or}
use Rattle.za_alpha.specs.Words.{IsWord}
use Rattle.za_claim.specs.declared.claim.Event.{Event}
use Rattle.za_claim.specs.Claims.{event_letters, blank_event}

abbrev pub letter_in : Event → ℕ
letter_in e = e.letter.0

-- a letter for each event
pub events-length : (events : List Event) → length (event_letters events) ≡ length events
events-length events = length-map events letter_in

pub event-letter : (events : List Event) (i : ℕ) → i < length events → slice_index (event_letters events) i ≡ (get_or events i blank_event).letter.0
event-letter events i l = get_or-map letter_in events i blank_event 0 l

-- the letters of one event more
pub letters-more : (events : List Event) (i : ℕ) → i < length events
    → take (i + 1) (event_letters events) ≡ take i (event_letters events) ++ (get_or events i blank_event).letter.0 ∷ []
letters-more events i l =
    let n = events-length events in
    let long : i < length (event_letters events) = omega arith in
    take_more (event_letters events) i 0 long ∙ ap (λ x. take i (event_letters events) ++ x ∷ []) (event-letter events i l)

pub letter-below : (letters : ℕ) (events : List Event) (i : ℕ) → i < length events → IsWord letters (event_letters events)
    → (get_or events i blank_event).letter.0 < letters
letter-below letters events i l word =
    let P : ℕ → Type 0 = λ a. a < letters in
    let n = events-length events in
    let long : i < length (event_letters events) = omega arith in
    subst P (event-letter events i l) (All-get_or P (event_letters events) i 0 long word)

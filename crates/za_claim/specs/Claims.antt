-- Claims: an answer, and events in the order in which they happened.
use Rattle.std.specs.Prelude.{ℕ, ◌≤◌, ◌^◌, All, List, length, map, slice_index_or}
use Rattle.za_alpha.specs.Alphabet.{DistributedAlphabet}
use Rattle.za_alpha.specs.Words.{IsWord}
use Rattle.za_script.specs.declared.answer.Answer.{Answer}
use Rattle.za_claim.specs.declared.claim.Event.{Event}
use Rattle.za_claim.specs.Limits.{most_events}

-- what contracts see of a claim
pub record ClaimData : Type 0 where
  pub answer : Answer
  pub events : List Event

-- the letters of the events
abbrev pub event_letters : List Event → List ℕ
event_letters events = map (λ (e : Event). e.letter.0) events

-- what stands for an event past the end
abbrev pub blank_event : Event
blank_event = record { letter = record { 0 = 0 }; label = 0 }

-- the label that is claimed for an event
abbrev pub claimed_label : List Event → ℕ → ℕ
claimed_label events i = (slice_index_or events i blank_event).label

-- the label is one of a letter: with n processes at most the cube of n
abbrev pub HasLabel : DistributedAlphabet → Event → Type 0
HasLabel alphabet event = event.label ≤ alphabet.processes ^ 3

-- what holds of the events of a claim about a job over the alphabet
pub record AreClaimedEvents (alphabet : DistributedAlphabet) (events : List Event) : Type 0 where
  pub short : length events ≤ most_events
  pub letters : IsWord (length alphabet.letters) (event_letters events)
  pub labels : All (HasLabel alphabet) events

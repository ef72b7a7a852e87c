-- What marks keep, and that it is what the definitions say.
use Rattle.std.specs.Prelude.{◌≡◌, ℕ, ◌<◌, ◌≤◌, List, length, map, slice_index, Option, vec_capacity}
use Rattle.za_alpha.specs.Words.{IsWord}
use Rattle.za_alpha.specs.Alphabet.{loc_of, IsDistributed}
use Rattle.za_order.specs.Views.{participants}
use Rattle.za_order.specs.Entries.{primary, last_in_past}
use Rattle.za_order.specs.Labels.{label}
use Rattle.za_views.specs.declared.events.Event.{Event}
use Rattle.za_views.specs.declared.marks.Marks.TheInside.{Inside}
use Rattle.za_views.specs.Private.Events.{event_at, entry, known}
use Rattle.za_views.specs.Marks.{MarkedWord}

-- the letters of the events
abbrev pub word_of_events : List Event → List ℕ
word_of_events events = map (λ (e : Event). e.letter.0) events

-- the word that contracts see
abbrev pub marked_word : Inside → MarkedWord
marked_word inside = record {
  alphabet = inside.alphabet;
  word = word_of_events inside.events.items;
  room = inside.room;
}

-- these are the first n events of the word: each has its letter, its label, and of each process the latest event in
-- its past; and of each process the row has the last event
pub record AreKept
    (loc : ℕ → List ℕ) (processes : ℕ) (w : List ℕ) (n : ℕ) (events : List Event) (own : List (Option ℕ))
    : Type 0 where
  pub count : length events ≡ n
  pub letters : (i : ℕ) → i < n → (event_at events i).letter.0 ≡ slice_index w i
  pub labels : (i : ℕ) → i < n → (event_at events i).label ≡ label loc processes w i
  pub pasts : (i q : ℕ) → i < n → q < processes → known events i q ≡ last_in_past (participants loc w) i q
  pub last : (p : ℕ) → p < processes → entry own p ≡ primary (participants loc w) n p p

-- the events are those of their word, of the alphabet, and there is room
pub record IsKept (inside : Inside) : Type 0 where
  pub alphabet : IsDistributed inside.alphabet
  pub word : IsWord (length inside.alphabet.letters) (word_of_events inside.events.items)
  pub short : length inside.events.items ≤ inside.room
  pub reserved : inside.room ≤ vec_capacity inside.events
  pub marked :
      AreKept (loc_of inside.alphabet) inside.alphabet.processes (word_of_events inside.events.items)
      (length inside.events.items) inside.events.items inside.own

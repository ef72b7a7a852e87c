-- The events of a word as they are kept, by their positions.
use Rattle.std.specs.Prelude.{ℕ, ◌<◌, List, [], length, slice_index_or, Option, None, IfSome, option_and_then}
use Rattle.za_views.specs.declared.events.Event.{Event}

-- what stands for an event past the end
abbrev pub no_event : Event
no_event = record { letter = record { 0 = 0 }; label = 0; past = [] }

-- the event at a position
abbrev pub event_at : List Event → ℕ → Event
event_at events e = slice_index_or events e no_event

-- the latest event of q that the event e knows
abbrev pub known : List Event → ℕ → ℕ → Option ℕ
known events e q = slice_index_or (event_at events e).past q None

-- the event that a row has for a process
abbrev pub entry : List (Option ℕ) → ℕ → Option ℕ
entry row p = slice_index_or row p None

-- what the row has for the processes are events below n
abbrev pub AreEvents : ℕ → ℕ → List (Option ℕ) → Type 0
AreEvents n processes row = (p : ℕ) → p < processes → IfSome (entry row p) (λ e. e < n)

-- the latest event of q that the process s knows, whose last own event the row has
abbrev pub known_by : List Event → List (Option ℕ) → ℕ → ℕ → Option ℕ
known_by events own q s = option_and_then (λ e. known events e q) (entry own s)

-- what the events know are events, and their labels are below the bound
pub record AreLabelled (bound processes : ℕ) (events : List Event) : Type 0 where
  pub rows : (e : ℕ) → e < length events → AreEvents (length events) processes (event_at events e).past
  pub labels : (e : ℕ) → e < length events → (event_at events e).label < bound

-- Lists of numbers of events.
use Rattle.std.specs.Prelude.{ℕ, List, map}
use Rattle.za_ids.specs.declared.ids.EventId.{EventId}

-- the numbers themselves
abbrev pub event_numbers : List EventId → List ℕ
event_numbers ids = map (λ (id : EventId). id.0) ids

-- The labels that a new event of a letter must not have.
use Rattle.std.specs.Prelude.{ℕ, zero, suc, Bool, false, not, ◌&&◌, ◌==◌, List, Option, Some, None}
use Rattle.std.specs.List.{range_with_len, list_any}
use Rattle.za_alpha.specs.Search.{least}
use Rattle.za_ids.specs.Limits.{most_labels}
use Rattle.za_views.specs.declared.events.Event.{Event}
use Rattle.za_views.specs.Private.Events.{event_at, known}

-- whether an event of the letter with the label k is found from the event in so many steps, each from an event to one
-- that it knows
abbrev pub is_label_taken : List Event → ℕ → ℕ → ℕ → ℕ → Option ℕ → Bool
is_label_taken events processes letter k steps None = false
is_label_taken events processes letter k zero (Some e) =
    (event_at events e).letter.0 == letter && (event_at events e).label == k
is_label_taken events processes letter k (suc steps) (Some e) =
    list_any (λ q. is_label_taken events processes letter k steps (known events e q)) (range_with_len 0 processes)

-- the least label that is not found in three steps from the event
abbrev pub least_untaken : List Event → ℕ → ℕ → Option ℕ → ℕ
least_untaken events processes letter own =
    least (λ k. not (is_label_taken events processes letter k 3 own)) most_labels

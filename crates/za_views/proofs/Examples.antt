-- The definitions of this crate at small words.
use Rattle.std.proofs.Common.{◌≡◌, ℕ, true, false, List, [], ◌∷◌, Option, Some, None, refl}
use Rattle.za_views.specs.declared.events.Event.{Event}
use Rattle.za_views.specs.Private.Events.{known, known_by}
use Rattle.za_views.specs.Private.Newest.{later}
use Rattle.za_views.specs.Private.Taken.{is_label_taken}

later_of_two : later (Some 3) (Some 1) ≡ Some 3
later_of_two = refl

later_than_none : later None (Some 1) ≡ Some 1
later_than_none = refl

abbrev kept : ℕ → ℕ → List (Option ℕ) → Event
kept letter label past = record { letter = record { 0 = letter }; label = label; past = past }

-- a b c a, where a is of process 0, b of process 1, and c of both
abbrev two : List Event
two = kept 0 0 (Some 0 ∷ None ∷ []) ∷ kept 1 0 (None ∷ Some 1 ∷ []) ∷ kept 2 0 (Some 2 ∷ Some 2 ∷ []) ∷ kept 0 0 (Some 3 ∷ Some 2 ∷ []) ∷ []

-- the event b knows nothing of process 0
b_knows : known two 1 0 ≡ None
b_knows = refl

-- process 0 knows the event c of process 1
zero_knows : known_by two (Some 3 ∷ Some 2 ∷ []) 1 0 ≡ Some 2
zero_knows = refl

-- another a may not have the label of the last, and may have the next
label_taken : is_label_taken two 2 0 0 3 (Some 3) ≡ true
label_taken = refl

label_free : is_label_taken two 2 0 1 3 (Some 3) ≡ false
label_free = refl

-- a a, of one process: the first is not found from the second
abbrev one : List Event
one = kept 0 0 (Some 0 ∷ []) ∷ kept 0 1 (Some 1 ∷ []) ∷ []

label_again : is_label_taken one 1 0 0 3 (Some 1) ≡ false
label_again = refl

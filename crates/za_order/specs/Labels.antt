-- The label and the number of each event. That a bounded number of labels serves is from Mukund and Sohoni 1997; the
-- rule that picks the label, and the numbers, are this project's own.
use Rattle.std.specs.Prelude.{ℕ, zero, suc, ◌+◌, ◌*◌, ◌^◌, not, List, [], ◌∷◌, ◌++◌, ◌==◌, Option, Some, None}
use Rattle.std.specs.Prelude.{slice_index, filter, filter_map, flat_map, map, length}
use Rattle.std.specs.List.{range_with_len}
use Rattle.za_alpha.specs.Words.{has}
use Rattle.za_alpha.specs.Search.{least}
use Rattle.za_order.specs.Views.{participants}
use Rattle.za_order.specs.Entries.{tertiary}

-- the least number that is not in the list
abbrev pub least_free : List ℕ → ℕ
least_free xs = least (λ k. not (has xs k)) (suc (length xs))

-- the tertiary entries of p after the first n events
abbrev pub tertiary_entries : (ℕ → List ℕ) → ℕ → ℕ → ℕ → List ℕ
tertiary_entries who processes n p =
    let range = range_with_len 0 processes in
    flat_map (λ q. flat_map (λ r. filter_map (λ s. tertiary who n p q r s) range) range) range

-- the least participant of the event i
abbrev pub least_participant : (ℕ → List ℕ) → ℕ → List ℕ → ℕ → ℕ
least_participant loc processes w i = least (λ p. has (participants loc w i) p) processes

-- the events of the letter of the event i that are tertiary entries of its least participant just before it
abbrev pub rivals : (ℕ → List ℕ) → ℕ → List ℕ → ℕ → List ℕ
rivals loc processes w i =
    filter (λ j. slice_index w j == slice_index w i)
    (tertiary_entries (participants loc w) processes i (least_participant loc processes w i))

-- the labels of the first n events: each is the least that no rival has
abbrev pub labels : (ℕ → List ℕ) → ℕ → List ℕ → ℕ → List ℕ
labels loc processes w zero = []
labels loc processes w (suc n) =
    let before = labels loc processes w n in
    before ++ least_free (map (λ j. slice_index before j) (rivals loc processes w n)) ∷ []

-- the label of the event i
abbrev pub label : (ℕ → List ℕ) → ℕ → List ℕ → ℕ → ℕ
label loc processes w i = slice_index (labels loc processes w (suc i)) i

-- the number of an event with this letter and this label
abbrev pub number_of : ℕ → ℕ → ℕ → ℕ
number_of processes letter k = 1 + letter * (processes ^ 3 + 1) + k

-- how many numbers there are: for each letter its labels, which are at most the cube of the number of processes
abbrev pub label_bound : ℕ → ℕ → ℕ
label_bound letters processes = letters * (processes ^ 3 + 1)

-- the number of an event of the word, and 0 for none
abbrev pub number : (ℕ → List ℕ) → ℕ → List ℕ → Option ℕ → ℕ
number loc processes w None = 0
number loc processes w (Some i) = number_of processes (slice_index w i) (label loc processes w i)

-- Numbers that travel with events, over the latest events that processes know (Mukund and Sohoni 1997). Each event
-- writes a number, and of each process a process knows the one that the latest event of it wrote.
use Rattle.std.specs.Prelude.{ℕ, List, length, take, slice_index, Option}
use Rattle.std.specs.Option.{option_map}
use Rattle.za_alpha.specs.Words.{projection}
use Rattle.za_order.specs.Views.{participants}
use Rattle.za_order.specs.Entries.{primary}
use Rattle.za_order.specs.Labels.{least_participant}

-- what p knows of q after the word, whose event i has written `written i`: the number of the latest event of q that p
-- knows
abbrev pub known_after : (ℕ → List ℕ) → List ℕ → (ℕ → ℕ) → ℕ → ℕ → Option ℕ
known_after loc w written p q = option_map written (primary (participants loc w) (length w) p q)

-- how many events of p there are before the event i
abbrev pub events_before : (ℕ → List ℕ) → List ℕ → ℕ → ℕ → ℕ
events_before loc w p i = length (projection loc p (take i w))

-- the event i writes the reading of its least participant, whose readings are taken in order, and 0 past the last
abbrev pub reading_of : (ℕ → List ℕ) → ℕ → (ℕ → List ℕ) → List ℕ → ℕ → ℕ
reading_of loc processes readings w i =
    let p = least_participant loc processes w i in slice_index (readings p) (events_before loc w p i)

-- what p then knows of q
abbrev pub news : (ℕ → List ℕ) → ℕ → (ℕ → List ℕ) → List ℕ → ℕ → ℕ → Option ℕ
news loc processes readings w p q = known_after loc w (reading_of loc processes readings w) p q

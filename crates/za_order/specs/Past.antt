-- The past of an event as a row of marks.
use Rattle.std.specs.Prelude.{ℕ, Bool, List, length, map}
use Rattle.std.specs.List.{range_with_len}
use Rattle.za_alpha.specs.Alphabet.{DistributedAlphabet, loc_of}
use Rattle.za_order.specs.Views.{participants, in_past}

-- for each position of the word, whether its event is in the past of the event at `at`
abbrev pub past_row : DistributedAlphabet → List ℕ → ℕ → List Bool
past_row alphabet w at = map (in_past (participants (loc_of alphabet) w) at) (range_with_len 0 (length w))

-- What contracts see of readings: for each process, in the order of their numbers, a list of numbers.
use Rattle.std.specs.Prelude.{ℕ, List, [], slice_index, slice_index_or}

-- the list of a process: empty where it has none
abbrev pub list_of : List (List ℕ) → ℕ → List ℕ
list_of readings p = slice_index_or readings p []

-- the reading of a process at an index: 0 past its list
abbrev pub reading_at : List (List ℕ) → ℕ → ℕ → ℕ
reading_at readings p k = slice_index (list_of readings p) k

-- Names of processes, in the order of the numbers of these.
use Rattle.std.specs.Prelude.{◌≡◌, ℕ, ◌<◌, ◌≤◌, List, [], length, map, decimal, slice_index_or, Option}
use Rattle.std.specs.List.{position_from, range_with_len}
use Rattle.std.specs.Str.{bytes_eq}
use Rattle.za_alpha.specs.Limits.{most_processes}

-- the name of a process: empty where there is no such process
abbrev pub name_of : List (List ℕ) → ℕ → List ℕ
name_of names p = slice_index_or names p []

-- the process that has the name
abbrev pub process_named : List (List ℕ) → List ℕ → Option ℕ
process_named names word = position_from (λ name. bytes_eq name word) 0 names

-- the names of so many processes where each has its number as its name
abbrev pub numbered : ℕ → List (List ℕ)
numbered n = map decimal (range_with_len 0 n)

-- no two processes have the same name
abbrev pub AreApart : List (List ℕ) → Type 0
AreApart names = (p q : ℕ) → p < length names → q < length names → name_of names p ≡ name_of names q → p ≡ q

-- what holds of all names: the limit, and that they tell the processes apart
pub record AreNames (names : List (List ℕ)) : Type 0 where
  pub few : length names ≤ most_processes
  pub apart : AreApart names

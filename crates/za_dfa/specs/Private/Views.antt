-- The table that the fields of a `Partial` mean.
use Rattle.std.specs.Prelude.{ℕ, ◌*◌, Bool, List, length, replicate, Option, None}
use Rattle.za_alpha.specs.Alphabet.{DistributedAlphabet}
use Rattle.za_dfa.specs.declared.partial.Partial.TheInside.{Inside}
use Rattle.za_dfa.specs.Partials.{PartialDfa, IsPartial}

abbrev pub partial_of_inside : Inside → PartialDfa
partial_of_inside inside =
    record {
      alphabet = inside.alphabet;
      states = inside.states;
      start = inside.start;
      accepting = inside.accepting.items;
      targets = inside.targets.items;
    }

abbrev pub IsPartialInside : Inside → Type 0
IsPartialInside inside = IsPartial (partial_of_inside inside)

-- the table with these entries: a state for each entry of `accepting`
abbrev pub table_with_cells : DistributedAlphabet → ℕ → List Bool → List (Option ℕ) → PartialDfa
table_with_cells alphabet start accepting cells =
    record { alphabet = alphabet; states = length accepting; start = start; accepting = accepting; targets = cells }

-- and that without targets
abbrev pub without_targets : DistributedAlphabet → ℕ → List Bool → PartialDfa
without_targets alphabet start accepting =
    table_with_cells alphabet start accepting (replicate (length accepting * length alphabet.letters) None)

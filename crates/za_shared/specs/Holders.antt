-- Records on a shelf: their values, and who holds them.
use Rattle.std.specs.Prelude.{ℕ, ◌+◌, ◌==◌, ◌||◌, Bool, List, [], map, count_by, slice_index, Option, Some, None}
use Rattle.za_alpha.specs.Words.{has}
use Rattle.za_records.specs.Shelf.{Shelf, at}
use Rattle.za_records.specs.declared.shelf.Counted.{Counted}
use Rattle.za_cache.specs.Lines.{LineKey}
use Rattle.za_local.specs.Locals.{LocalState}

-- stands in where there is no record
abbrev pub no_local : LocalState
no_local = record {
  gossip = record { primary = []; secondary = []; tertiary = [] };
  residues = record { processes = 0; states = 0; values = [] };
}

abbrev pub held_value : Option (Counted LocalState) → LocalState
held_value None = no_local
held_value (Some c) = c.value

-- the value of a key
abbrev pub value : Shelf LocalState → ℕ → LocalState
value s k = held_value (at s k)

-- the values of the keys of these processes
abbrev pub values_at : Shelf LocalState → List ℕ → List ℕ → List LocalState
values_at s keys ps = map (λ p. value s (slice_index keys p)) ps

-- whether a line names the key as its output or among its inputs
abbrev pub is_named : List ℕ → ℕ → ℕ → Bool
is_named inputs output k = output == k || has inputs k

-- how many holders a key has: the call in progress, the processes whose local state it is, and the lines that name it,
-- each of which is one holder however often it names it
abbrev pub holders : List ℕ → List ℕ → List (LineKey × ℕ) → ℕ → ℕ
holders own keys lines k =
    count_by (λ x. x == k) own
    + (count_by (λ x. x == k) keys + count_by (λ (l : LineKey × ℕ). is_named l.0.inputs l.1 k) lines)

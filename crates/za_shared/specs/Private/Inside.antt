-- What the fields of shared local states are.
use Rattle.std.specs.Prelude.{◌≡◌, ℕ, ◌≤◌, List, [], ◌∷◌, Option, Some, None, vec_capacity}
use Rattle.za_cache.specs.Lines.{Lines, LineKey}
use Rattle.za_shared.specs.Records.{Records, AreRecords, bound}
use Rattle.za_shared.specs.Marks.{AreMarked}
use Rattle.za_shared.specs.declared.shared.SharedLocals.TheInside.{Inside}

abbrev pub lines_of_rows : Option Lines → List (LineKey × ℕ)
lines_of_rows None = []
lines_of_rows (Some rows) = rows.lines

abbrev pub cache_in : Option Lines → ℕ
cache_in None = 0
cache_in (Some rows) = rows.capacity

abbrev pub own_in : Option ℕ → List ℕ
own_in None = []
own_in (Some key) = key ∷ []

abbrev pub records_in : Inside → Records
records_in inside = record {
  dfa = inside.closed;
  cache = cache_in inside.rows;
  shelf = inside.shelf;
  own = own_in inside.own;
  keys = inside.keys.items;
  lines = lines_of_rows inside.rows;
  spares = inside.spares.items;
}

-- the records are right, there is room for all spares, the bench is for this automaton, and keys have the marks of
-- their records
pub record AreRecordsInside (inside : Inside) : Type 0 where
  pub records : AreRecords (records_in inside)
  pub room : bound inside.closed.alphabet.processes (cache_in inside.rows) ≤ vec_capacity inside.spares
  pub processes : inside.bench.processes ≡ inside.closed.alphabet.processes
  pub states : inside.bench.states ≡ inside.closed.states
  pub marks : AreMarked inside.shelf inside.marks.items

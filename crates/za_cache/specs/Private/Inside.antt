-- What the fields of rows mean.
use Rattle.std.specs.Prelude.{ℕ, ◌&&◌, Bool, List, nat_eq, map}
use Rattle.std.specs.Cmp.Lexicographic.{pointwise}
use Rattle.za_cache.specs.declared.rows.RowKey.{RowKey}
use Rattle.za_cache.specs.declared.rows.Rows.TheInside.{Inside}
use Rattle.za_cache.specs.Lines.{LineKey, Lines, line_key}

-- whether a key in the cache is of this letter and these inputs
abbrev pub is_row_key : ℕ → List ℕ → RowKey → Bool
is_row_key letter inputs key = nat_eq letter key.letter && pointwise nat_eq inputs key.inputs.items

-- an entry of the cache as a line, wherever its list lies in memory
abbrev pub bare : RowKey × ℕ → LineKey × ℕ
bare e = (line_key e.0.letter e.0.inputs.items, e.1)

abbrev pub lines_in : Inside → Lines
lines_in inside = record { lines = map bare inside.cache.entries; capacity = inside.cache.cap }

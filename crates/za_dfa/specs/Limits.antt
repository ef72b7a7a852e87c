-- The limit of a table.
use Rattle.std.specs.Prelude.{ℕ}

-- the most states that rows are given for; a completed table may have one more
abbrev pub most_states : ℕ
most_states = 128

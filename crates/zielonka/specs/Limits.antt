-- The limit of an input.
use Rattle.std.specs.Prelude.{ℕ}

-- the most bytes
abbrev pub most_bytes : ℕ
most_bytes = 1048576

-- The limit of an expression.
use Rattle.std.specs.Prelude.{ℕ}

-- the most signs
abbrev pub most_signs : ℕ
most_signs = 64

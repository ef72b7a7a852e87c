-- The limit of claims.
use Rattle.std.specs.Prelude.{ℕ}

-- the most events of a claim
abbrev pub most_events : ℕ
most_events = 65536

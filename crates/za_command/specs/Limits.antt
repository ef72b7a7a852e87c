-- The limit of the command's cache option.
use Rattle.std.specs.Prelude.{ℕ}

-- the most rows of a cache
abbrev pub most_cache_rows : ℕ
most_cache_rows = 64

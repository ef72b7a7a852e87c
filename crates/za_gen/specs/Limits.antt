-- The size of a generated job.
use Rattle.std.specs.Prelude.{ℕ}

-- how many letters are drawn
abbrev pub letters_drawn : ℕ
letters_drawn = 20000

-- The limit of scripts.
use Rattle.std.specs.Prelude.{ℕ}

-- the most letters of all scripts together
abbrev pub most_script_letters : ℕ
most_script_letters = 65536

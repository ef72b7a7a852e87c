-- The limits of an alphabet.
use Rattle.std.specs.Prelude.{ℕ}

-- the most processes
abbrev pub most_processes : ℕ
most_processes = 10

-- the most letters
abbrev pub most_letters : ℕ
most_letters = 128

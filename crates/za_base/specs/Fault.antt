-- Counts of faults. A count is a number of 64 bits that stops at its last value.
use Rattle.std.specs.Prelude.{ℕ, ◌+◌, ◌-◌, ◌^◌, ◌≤◌, min}

-- one more than the count, or its last value
abbrev pub next_count : ℕ → ℕ
next_count n = min (n + 1) (2 ^ 64 - 1)

-- the count rose, or stands at its last value
abbrev pub Rises : ℕ → ℕ → Type 0
Rises before after = next_count before ≤ after

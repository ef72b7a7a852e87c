-- What writing a whole text to a sink does.
use Rattle.std.specs.Prelude.{◌≡◌, ℕ, ◌<◌, List, length, take, Option, Result, Ok, Err}
use Rattle.std.specs.Io.KnownBytes.{Appends}
use Rattle.za_base.specs.Fault.{Rises}

-- the whole text was appended; or exactly its first k bytes, fewer than all, and then a write failed. `written` and
-- `now` are the bytes written before and after, `before` and `after` the counts of faults: where the whole text was
-- appended it stays
abbrev pub HasWritten : List ℕ → Option (List ℕ) → Option (List ℕ) → ℕ → ℕ → Result (Unit {0}) ℕ → Type 0
HasWritten text written now before after (Ok u) = Appends written now text × (after ≡ before)
HasWritten text written now before after (Err k) =
    (k < length text) × Appends written now (take k text) × Rises before after

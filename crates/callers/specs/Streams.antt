-- What copying a source to a sink does.
use Rattle.std.specs.Prelude.{◌≡◌, ℕ, ◌<◌, List, length, take, Option, Result, Ok, Err}
use Rattle.std.specs.Io.KnownBytes.{Consumes, Appends, IsAtEnd}
use Rattle.callers.specs.declared.streams.CopyEnd.{CopyEnd}
use Rattle.callers.specs.declared.streams.CopyEnd.TheVariants.{Unread, Unwritten}

-- all bytes that were left were written; or the source wasn't read to its end, and nothing was written; or it was,
-- and exactly the first k bytes were written, fewer than all. `left` and `now` are the bytes left before and after,
-- `written` and `after` the bytes written
abbrev pub HasCopied : Option (List ℕ) → Option (List ℕ) → Option (List ℕ) → Option (List ℕ) →
    Result (Unit {0}) CopyEnd → Type 0
HasCopied left now written after (Ok u) =
    (bytes : List ℕ) × Consumes left now bytes × IsAtEnd now × Appends written after bytes
HasCopied left now written after (Err (Unread end)) = after ≡ written
HasCopied left now written after (Err (Unwritten k)) =
    (bytes : List ℕ) × Consumes left now bytes × IsAtEnd now × (k < length bytes) × Appends written after (take k bytes)

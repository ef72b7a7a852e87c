-- What reading a source to its end does.
use Rattle.std.specs.Prelude.{◌≡◌, ℕ, ◌+◌, ◌≤◌, List, length, Option, Result, Ok, Err, Vec}
use Rattle.std.specs.declared.alloc.Global.{Global}
use Rattle.std.specs.Io.KnownBytes.{Consumes, IsAtEnd}
use Rattle.za_base.specs.Fault.{Rises}
use Rattle.za_base.specs.declared.reading.ReadEnd.{ReadEnd}
use Rattle.za_base.specs.declared.reading.ReadEnd.TheVariants.{Fault, TooLong, OutOfMemory}

-- some bytes were taken, and their number is as wanted
abbrev pub Took : Option (List ℕ) → Option (List ℕ) → (ℕ → Type 0) → Type 0
Took old new P = (bytes : List ℕ) × (Consumes old new bytes × P (length bytes))

-- a source was read to its end, and had at most `limit` bytes; or one byte more was taken; or at most `limit` bytes
-- were taken and then a read failed, or memory was refused. `left` and `now` are the bytes left before and after,
-- `before` and `after` the counts of faults: only where a read failed did it rise, and else it stays
abbrev pub HasRead : ℕ → Option (List ℕ) → Option (List ℕ) → ℕ → ℕ → Result (Vec ℕ Global) ReadEnd → Type 0
HasRead limit left now before after (Ok text) =
    (length text.items ≤ limit) × Consumes left now text.items × IsAtEnd now × (after ≡ before)
HasRead limit left now before after (Err TooLong) = Took left now (λ n. n ≡ limit + 1) × (after ≡ before)
HasRead limit left now before after (Err Fault) = Took left now (λ n. n ≤ limit) × Rises before after
HasRead limit left now before after (Err OutOfMemory) = Took left now (λ n. n ≤ limit) × (after ≡ before)

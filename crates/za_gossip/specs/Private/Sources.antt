-- Where the entries after an event come from.
use Rattle.std.specs.Prelude.{◌≡◌, ℕ, ◌/◌, ◌%◌, List, [], length, Option, Some, None, IsTrue, IsFalse}
use Rattle.std.specs.Prelude.{slice_index, slice_index_or, slice_get}
use Rattle.std.specs.Option.{option_map_or}
use Rattle.za_alpha.specs.Words.{has}
use Rattle.za_alpha.specs.Alphabet.{DistributedAlphabet, loc_of}
use Rattle.za_order.specs.Views.{participants}
use Rattle.za_order.specs.Locals.{best}

-- from the event itself for a participant q, and for q else from the input of the best
abbrev pub IsSource : DistributedAlphabet → List ℕ → ℕ → ℕ → Option ℕ → Type 0
IsSource alphabet w a q None = IsTrue (has (loc_of alphabet a) q)
IsSource alphabet w a q (Some b) =
    let xs = loc_of alphabet a in
    IsFalse (has xs q)
    × (slice_get xs b ≡ Some (best (participants (loc_of alphabet) w) alphabet.processes (length w) xs q))

-- an entry after the event: `own` where the source is none, and else the entry i of the row of the source
abbrev pub source_entry : ℕ → Option ℕ → List (List ℕ) → ℕ → ℕ
source_entry own source rows i = option_map_or (λ b. slice_index (slice_index_or rows b []) i) source own

-- the entry i of a row in blocks of the length of `own`, one for each process: from `own`, or from one of the rows
abbrev pub joined_entry : List ℕ → List (Option ℕ) → List (List ℕ) → ℕ → ℕ
joined_entry own sources rows i =
    let block = i / length own in
    source_entry (slice_index own (i % length own)) (slice_index_or sources block None) rows i

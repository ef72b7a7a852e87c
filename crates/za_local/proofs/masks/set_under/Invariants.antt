use Rattle.std.proofs.Common.{◌≡◌, ℕ, ◌<◌, List, [], length, slice_index_or}
use Rattle.za_alpha.specs.Limits.{most_processes}
use Rattle.za_alpha.specs.Words.{has}
use Rattle.za_alpha.specs.Procs.{members, no_process}
use Rattle.za_alpha.specs.Alphabet.{loc_of}
use Rattle.za_gossip.specs.Rows.{AreRowsAfter}
use Rattle.za_local.specs.Private.Shared.{under_at}
use Rattle.za_local.proofs.masks.set_under.Given as goal

-- the rows of the first inputs are there
abbrev pub invariant-loop-i : goal.invariant-loop-i
invariant-loop-i l =
    (length l.rows ≡ most_processes) ×
    ((w : List ℕ) → AreRowsAfter l.alphabet w (loc_of l.alphabet l.a.0) l.inputs → (k r s : ℕ) → k < l.i → r < l.alphabet.processes →
    has (members (slice_index_or (slice_index_or l.rows k []) r no_process)) s ≡ under_at l.alphabet l.a.0 w k r s)

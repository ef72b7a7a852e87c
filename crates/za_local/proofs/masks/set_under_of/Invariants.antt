use Rattle.std.proofs.Common.{◌≡◌, ℕ, ◌<◌, List, length, slice_index_or}
use Rattle.za_alpha.specs.Limits.{most_processes}
use Rattle.za_alpha.specs.Words.{has}
use Rattle.za_alpha.specs.Procs.{members, no_process}
use Rattle.za_alpha.specs.Alphabet.{loc_of}
use Rattle.za_gossip.specs.Rows.{AreRowsAfter}
use Rattle.za_local.specs.Private.Shared.{under_at}
use Rattle.za_local.proofs.masks.set_under_of.Given as goal

-- the sets of the first processes are there
abbrev pub invariant-loop-r : goal.invariant-loop-r
invariant-loop-r l =
    (length l.sets ≡ most_processes) ×
    ((w : List ℕ) → AreRowsAfter l.alphabet w (loc_of l.alphabet l.a.0) l.inputs → (k s : ℕ) → k < l.r →
    has (members (slice_index_or l.sets k no_process)) s ≡ under_at l.alphabet l.a.0 w l.i k s)

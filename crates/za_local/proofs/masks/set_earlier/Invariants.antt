use Rattle.std.proofs.Common.{◌≡◌, ℕ, ◌<◌, length, slice_index_or}
use Rattle.za_alpha.specs.Limits.{most_processes}
use Rattle.za_alpha.specs.Words.{has}
use Rattle.za_alpha.specs.Procs.{members, no_process}
use Rattle.za_local.specs.Private.Shared.{is_shared_before}
use Rattle.za_local.proofs.masks.set_earlier.Given as goal

-- the sets of the first inputs are there
abbrev pub invariant-loop-i : goal.invariant-loop-i
invariant-loop-i l = (length l.sets ≡ most_processes) × ((k s : ℕ) → k < l.i → has (members (slice_index_or l.sets k no_process)) s
    ≡ is_shared_before l.inputs k s)

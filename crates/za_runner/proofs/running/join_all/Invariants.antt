use Rattle.std.proofs.Common.{◌≡◌, ◌⊎◌, ℕ, ◌+◌, ◌≤◌, length, map, true, vec_capacity}
use Rattle.std.specs.List.{All}
use Rattle.za_alpha.specs.Words.{has}
use Rattle.za_hall.specs.Halls.{IsOf}
use Rattle.za_runner.specs.Private.Lists.{desk_numbers, AreOf, promised}
use Rattle.za_runner.proofs.running.join_all.Given as goal

abbrev pub invariant-loop-handle : goal.invariant-loop-handle
invariant-loop-handle g l = AreOf l.hall l.mine.items × All (λ h. IsOf h.promise.0.value l.hall) l.handles.items
    × (length l.handles.items + length l.mine.items ≤ vec_capacity l.mine)
    × ((p : ℕ) → (has (map promised l.fn.handles.items) p ≡ true) ⊎ (has (desk_numbers l.fn.mine.items) p ≡ true) →
    (has (map promised l.handles.items) p ≡ true) ⊎ (has (desk_numbers l.mine.items) p ≡ true))

abbrev pub decreases-loop-handle : goal.decreases-loop-handle
decreases-loop-handle g l = goal.left-loop-handle g l

use Rattle.std.proofs.Common.{◌≡◌, ◌⊎◌, ℕ, ◌+◌, length, map, true, vec_capacity}
use Rattle.std.specs.List.{All}
use Rattle.za_alpha.specs.Words.{has}
use Rattle.za_hall.specs.Halls.{IsOf}
use Rattle.za_runner.specs.Private.Lists.{desk_numbers, AreOf, promised}
use Rattle.za_runner.proofs.running.start_all.Given as goal

abbrev pub invariant-loop-desk : goal.invariant-loop-desk
invariant-loop-desk g l = AreOf l.hall l.desks.items × AreOf l.hall l.mine.items × All (λ h. IsOf h.promise.0.value l.hall) l.handles.items
    × ((p : ℕ) → has (desk_numbers l.fn.desks.items) p ≡ true → (has (desk_numbers l.desks.items) p ≡ true) ⊎
    ((has (map promised l.handles.items) p ≡ true) ⊎ (has (desk_numbers l.mine.items) p ≡ true)))
    × (length l.desks.items + length l.handles.items + length l.mine.items ≡ length l.fn.desks.items)
    × (vec_capacity l.mine ≡ vec_capacity l.fn.mine) × (vec_capacity l.handles ≡ vec_capacity l.fn.handles)

abbrev pub decreases-loop-desk : goal.decreases-loop-desk
decreases-loop-desk g l = goal.left-loop-desk g l

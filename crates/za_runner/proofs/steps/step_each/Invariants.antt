use Rattle.std.proofs.Common.{◌≡◌, length, vec_capacity}
use Rattle.za_runner.specs.Private.Lists.{desk_numbers, AreOf}
use Rattle.za_runner.proofs.steps.step_each.Given as goal

abbrev pub invariant-loop-i : goal.invariant-loop-i
invariant-loop-i l = AreOf l.hall l.desks.items × (desk_numbers l.desks.items ≡ desk_numbers l.fn.desks.items)
    × (vec_capacity l.desks ≡ vec_capacity l.fn.desks) ×
    (length l.desks.items ≡ length l.fn.desks.items)

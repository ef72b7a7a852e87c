use Rattle.std.proofs.Common.{◌≡◌, ◌+◌, ◌%◌, ◌^◌, take}
use Rattle.std.specs.List.{fold}
use Rattle.za_ids.specs.Numbers.{event_numbers}
use Rattle.za_shared.proofs.marks.mark_of.Given as goal

abbrev pub invariant-loop-i : goal.invariant-loop-i
invariant-loop-i l = l.sum ≡ fold (λ m id. (m + id) % 2 ^ 32) 0 (take l.i (event_numbers l.ids))

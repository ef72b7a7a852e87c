use Rattle.std.proofs.Common.{◌≡◌, ◌≤◌, ◌-◌, map, slice_index}
use Rattle.za_alpha.specs.Procs.{members_below}
use Rattle.za_shared.proofs.seats.choose.Given as goal

abbrev pub invariant-members : goal.invariant-members
invariant-members l =
    (l.start ≤ 16) × (l.chosen.items ≡ map (λ p. slice_index l.keys p) (members_below l.processes l.start)) × (l.chosen.capacity ≡ l.initial.chosen.capacity)

abbrev pub decreases-members : goal.decreases-members
decreases-members l = 16 - l.start

use Rattle.std.proofs.Common.{◌≡◌}
use Rattle.za_alpha.specs.Procs.{members_below}
use Rattle.za_shared.specs.Holders.{values_at}
use Rattle.za_shared.proofs.seats.gather.Given as goal

abbrev pub invariant-loop-p : goal.invariant-loop-p
invariant-loop-p l = l.bench ≡ record l.initial.bench { locals = values_at l.shelf l.keys (members_below l.processes l.p) }

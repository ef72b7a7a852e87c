use Rattle.std.proofs.Common.{◌≡◌, vec_capacity}
use Rattle.za_alpha.specs.Procs.{members_below}
use Rattle.za_shared.specs.Holders.{values_at}
use Rattle.za_shared.specs.Private.Steps.{held_by, HaveFewer}
use Rattle.za_shared.proofs.seats.vacate.Given as goal

abbrev pub invariant-loop-p : goal.invariant-loop-p
invariant-loop-p l = record {
  fewer : HaveFewer l.initial.shelf l.shelf l.initial.spares.items l.spares.items (held_by l.keys (members_below l.processes l.p));
  capacity : vec_capacity l.spares ≡ vec_capacity l.initial.spares;
  bench : l.bench ≡ record l.initial.bench { locals = values_at l.initial.shelf l.keys (members_below l.processes l.p) };
}

use Rattle.std.proofs.Common.{◌≡◌, length, take}
use Rattle.za_alpha.specs.Procs.{members_below}
use Rattle.za_shared.specs.Holders.{values_at}
use Rattle.za_shared.proofs.seats.are_on.Given as goal

abbrev pub invariant-loop-p : goal.invariant-loop-p
invariant-loop-p l = record {
  place : l.place ≡ length (values_at l.shelf l.keys (members_below l.processes l.p));
  front : take l.place l.bench.locals ≡ values_at l.shelf l.keys (members_below l.processes l.p);
}

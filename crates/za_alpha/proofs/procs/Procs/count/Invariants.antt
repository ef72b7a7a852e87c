use Rattle.std.proofs.Common.{◌≡◌, ◌≤◌, length}
use Rattle.za_alpha.specs.Procs.{members_below}
use Rattle.za_alpha.proofs.procs.Procs.count.Given as goal

-- the members so far are counted
abbrev pub invariant-loop-p : goal.invariant-loop-p
invariant-loop-p l = record {
  small : l.count ≤ l.p;
  counted : l.count ≡ length (members_below l.self l.p);
}

use Rattle.std.proofs.Common.{◌≡◌, ℕ, ◌<◌, ◌≤◌, Some, if◌then◌else◌}
use Rattle.za_alpha.specs.Words.{has}
use Rattle.za_alpha.specs.Procs.{members}
use Rattle.za_views.specs.Private.Events.{entry}
use Rattle.za_views.proofs.entries.take_part.Given as goal

-- the entries so far are made, and the others as they were
abbrev pub invariant-loop-p : goal.invariant-loop-p
invariant-loop-p l = record {
  made : (p : ℕ) → p < l.p → entry l.own p ≡ (if has (members l.takes) p then Some l.at else entry l.initial.own p);
  rest : (p : ℕ) → l.p ≤ p → entry l.own p ≡ entry l.initial.own p;
}

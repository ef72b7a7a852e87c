use Rattle.std.proofs.Common.{ℕ, ◌<◌, IsFalse}
use Rattle.za_audit.specs.Private.Standing.{is_next}
use Rattle.za_audit.proofs.counts.least_next.Given as goal

abbrev pub invariant-loop-at : goal.invariant-loop-at
invariant-loop-at l = (b : ℕ) → b < l.at → IsFalse (is_next l.alphabet l.scripts l.counts b)

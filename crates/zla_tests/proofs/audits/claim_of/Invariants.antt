use Rattle.std.proofs.Common.{◌≡◌}
use Rattle.zla_tests.proofs.audits.claim_of.Given as goal

abbrev pub invariant-loop-a : goal.invariant-loop-a
invariant-loop-a g l = l.marks.alphabet ≡ l.alphabet

use Rattle.std.proofs.Common.{◌≡◌}
use Rattle.knowledge_tests.proofs.views.marked.Given as goal

abbrev pub invariant-loop-letter : goal.invariant-loop-letter
invariant-loop-letter g l = l.marks.alphabet ≡ l.alphabet

use Rattle.std.proofs.Common.{◌≡◌}
use Rattle.std.specs.List.{range_with_len}
use Rattle.za_gossip.specs.Rows.{AreRowsAfter}
use Rattle.knowledge_tests.proofs.gossip.played.Given as goal

-- the states are the rows after the word so far, and the marks are of the alphabet
abbrev pub invariant-loop-letter : goal.invariant-loop-letter
invariant-loop-letter g l = AreRowsAfter l.alphabet l.word (range_with_len 0 l.alphabet.processes) l.states.items × (l.marks.alphabet ≡ l.alphabet)

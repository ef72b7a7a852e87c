use Rattle.std.proofs.Common.{◌≡◌, [], map}
use Rattle.std.specs.List.{range_with_len}
use Rattle.za_alpha.specs.Alphabet.{loc_of}
use Rattle.za_gossip.specs.Rows.{rows_after}
use Rattle.knowledge_tests.proofs.gossip.opened.Given as goal

abbrev pub invariant-loop : goal.invariant-loop
invariant-loop l = l.states.items ≡ map (rows_after (loc_of l.alphabet) l.n []) (range_with_len 0 l.counter)

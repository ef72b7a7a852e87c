use Rattle.std.proofs.Common.{◌≡◌, ◌++◌, ◌∷◌, [], map}
use Rattle.std.specs.List.{range_with_len}
use Rattle.za_alpha.specs.Alphabet.{loc_of}
use Rattle.za_gossip.specs.Rows.{rows_after}
use Rattle.knowledge_tests.proofs.gossip.changed.Given as goal

abbrev pub invariant-loop-x : goal.invariant-loop-x
invariant-loop-x l = l.after.items ≡ map (rows_after (loc_of l.alphabet) l.alphabet.processes (l.word ++ l.fn.a.0 ∷ [])) (range_with_len 0 l.x)

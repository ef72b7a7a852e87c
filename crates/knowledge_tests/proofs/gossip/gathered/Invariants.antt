use Rattle.std.proofs.Common.{◌≡◌, map}
use Rattle.za_alpha.specs.Procs.{members_below}
use Rattle.za_alpha.specs.Alphabet.{loc_of}
use Rattle.za_gossip.specs.Rows.{rows_after}
use Rattle.knowledge_tests.proofs.gossip.gathered.Given as goal

abbrev pub invariant-loop-x : goal.invariant-loop-x
invariant-loop-x l = l.inputs.items ≡ map (rows_after (loc_of l.alphabet) l.alphabet.processes l.word) (members_below l.participants l.x)

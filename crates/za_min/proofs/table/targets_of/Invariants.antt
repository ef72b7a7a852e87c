use Rattle.za_min.specs.Private.Exploring.{merged_of, AreTargets}
use Rattle.za_min.proofs.table.targets_of.Given as goal

-- the targets of the cells so far
abbrev pub invariant-loop-i : goal.invariant-loop-i
invariant-loop-i l = AreTargets (merged_of l.dfa l.classes) l.found.words.items l.i l.targets.items

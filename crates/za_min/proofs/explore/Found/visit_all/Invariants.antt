use Rattle.std.proofs.Common.{◌<◌, length}
use Rattle.za_min.specs.Private.Exploring.{merged_of, AreFoundStates}
use Rattle.za_min.proofs.explore.Found.visit_all.Given as goal

-- the letters so far are done
abbrev pub invariant-loop-a : goal.invariant-loop-a
invariant-loop-a l = record {
  within : l.at < length l.self.words.items;
  found : AreFoundStates (merged_of l.dfa l.classes) l.at l.a l.self.words.items l.self.states.items;
}

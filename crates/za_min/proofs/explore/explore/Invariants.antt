use Rattle.std.proofs.Common.{◌-◌}
use Rattle.za_min.specs.Private.Exploring.{merged_of, AreFoundStates}
use Rattle.za_min.proofs.explore.explore.Given as goal

-- the letters of the places so far are done
abbrev pub invariant-loop-at : goal.invariant-loop-at
invariant-loop-at l = AreFoundStates (merged_of l.dfa l.classes) l.at 0 l.found.words.items l.found.states.items

-- there are no more places than states
abbrev pub decreases-loop-at : goal.decreases-loop-at
decreases-loop-at l = l.dfa.states - l.at

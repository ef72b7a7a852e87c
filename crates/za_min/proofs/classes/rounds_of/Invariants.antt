use Rattle.std.proofs.Common.{◌≡◌, length, map}
use Rattle.std.specs.List.{range_with_len}
use Rattle.za_dfa.specs.Tables.{automaton_of}
use Rattle.za_min.specs.Private.Rounds.{rounds}
use Rattle.za_min.proofs.RoundSteps.{gap}
use Rattle.za_min.proofs.classes.rounds_of.Given as goal

-- the rows are the rounds before the one at hand
abbrev pub invariant-loop-classes : goal.invariant-loop-classes
invariant-loop-classes l = record {
  rows : l.rows.items ≡ map (rounds (automaton_of l.dfa)) (range_with_len 0 (length l.rows.items));
  classes : l.classes ≡ rounds (automaton_of l.dfa) (length l.rows.items);
}

abbrev pub decreases-loop-classes : goal.decreases-loop-classes
decreases-loop-classes l = gap l.dfa.states l.classes

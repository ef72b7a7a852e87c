use Rattle.std.proofs.Common.{◌≡◌, ◌<◌}
use Rattle.za_residue.specs.Laws.{in_turn}
use Rattle.za_residue.specs.Private.Turns.{turn_of, CanBeTaken}
use Rattle.za_residue.proofs.composing.composed.Given as goal

-- the first inputs were taken in turn, and their functions lead to states
abbrev pub invariant-loop-i : goal.invariant-loop-i
invariant-loop-i l = (l.state ≡ in_turn (turn_of l.inputs l.fn.omitted) l.i l.fn.q) × ((taken : CanBeTaken l.inputs l.fn.omitted l.fn.q) →
    l.state < taken.states)

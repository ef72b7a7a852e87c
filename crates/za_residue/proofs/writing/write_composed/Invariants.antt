use Rattle.std.proofs.Common.{◌≡◌, ℕ, ◌<◌, slice_index}
use Rattle.za_residue.specs.Laws.{in_turn}
use Rattle.za_residue.specs.Private.Turns.{turn_of}
use Rattle.za_residue.proofs.writing.write_composed.Given as goal

-- the first inputs were taken in turn, and their functions lead to states
abbrev pub invariant-loop-i : goal.invariant-loop-i
invariant-loop-i l = (q : ℕ) → q < l.states → (slice_index l.block q ≡ in_turn (turn_of l.inputs l.omitted) l.i q) × (slice_index l.block q < l.states)

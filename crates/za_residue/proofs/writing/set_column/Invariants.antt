use Rattle.std.proofs.Common.{◌≡◌, ℕ, ◌+◌, ◌<◌, length, slice_index}
use Rattle.za_dfa.specs.Limits.{most_states}
use Rattle.za_dfa.specs.Tables.{step_of}
use Rattle.za_residue.proofs.writing.set_column.Given as goal

-- the first states are there
abbrev pub invariant-loop-q : goal.invariant-loop-q
invariant-loop-q l = record {
  long : length l.column ≡ most_states + 1;
  steps : (k : ℕ) → k < l.q → slice_index l.column k ≡ step_of l.closed k l.a.0;
  within : (k : ℕ) → k < l.q → slice_index l.column k < l.closed.states;
}

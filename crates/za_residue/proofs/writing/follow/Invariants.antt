use Rattle.std.proofs.Common.{◌≡◌, ℕ, ◌<◌, ◌≤◌, slice_index}
use Rattle.za_residue.proofs.writing.follow.Given as goal

-- the first entries are changed, and the others not
abbrev pub invariant-loop-q : goal.invariant-loop-q
invariant-loop-q l = record {
  done : (k : ℕ) → k < l.q → slice_index l.block k ≡ slice_index l.function (slice_index l.initial.block k);
  rest : (k : ℕ) → l.q ≤ k → slice_index l.block k ≡ slice_index l.initial.block k;
}

use Rattle.std.proofs.Common.{◌≡◌, ℕ, ◌+◌, ◌*◌, ◌^◌, ◌<◌, length, slice_index}
use Rattle.za_residue.proofs.writing.write_identities.Given as goal

-- the first sets are there
abbrev pub invariant-loop-p : goal.invariant-loop-p
invariant-loop-p l = record {
  size : length l.block ≡ 2 ^ l.processes * l.states;
  done : (m q : ℕ) → m < 2 ^ l.p → q < l.states → slice_index l.block (m * l.states + q) ≡ q;
}

use Rattle.std.proofs.Common.{◌≡◌, ℕ, ◌<◌, slice_index}
use Rattle.za_residue.proofs.writing.write_identity.Given as goal

-- the first entries are there
abbrev pub invariant-loop-q : goal.invariant-loop-q
invariant-loop-q l = (k : ℕ) → k < l.q → slice_index l.block k ≡ k

use Rattle.std.proofs.Common.{◌≡◌, ℕ, ◌<◌, length, slice_index}
use Rattle.za_alpha.specs.Limits.{most_processes}
use Rattle.za_local.specs.Private.Shared.{IsBest}
use Rattle.za_local.proofs.masks.set_bests.Given as goal

-- the first are there
abbrev pub invariant-loop-r : goal.invariant-loop-r
invariant-loop-r l = record {
  long : length l.bests ≡ most_processes;
  each : (k : ℕ) → k < l.r → IsBest l.alphabet l.a.0 l.inputs k (slice_index l.bests k);
}

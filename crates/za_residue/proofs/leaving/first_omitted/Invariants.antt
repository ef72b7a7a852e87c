use Rattle.std.proofs.Common.{◌≡◌, ℕ, ◌^◌, ◌<◌, length, slice_index_or}
use Rattle.za_alpha.specs.Limits.{most_processes}
use Rattle.za_alpha.specs.Words.{has}
use Rattle.za_alpha.specs.Procs.{members, no_process}
use Rattle.za_residue.specs.Masks.{is_earlier}
use Rattle.za_residue.proofs.leaving.first_omitted.Given as goal

-- the first are there
abbrev pub invariant-loop-i : goal.invariant-loop-i
invariant-loop-i l = record {
  long : length l.omitted ≡ most_processes;
  small : (k : ℕ) → k < l.i → (slice_index_or l.omitted k no_process).0 < 2 ^ 16;
  members : (k s : ℕ) → k < l.i → has (members (slice_index_or l.omitted k no_process)) s ≡ is_earlier l.masks k s;
}

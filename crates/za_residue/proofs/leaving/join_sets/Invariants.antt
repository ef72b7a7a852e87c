use Rattle.std.proofs.Common.{◌≡◌, ℕ, ◌^◌, ◌<◌, ◌||◌, length, slice_index_or}
use Rattle.std.specs.Prelude.{IsTrue}
use Rattle.za_alpha.specs.Limits.{most_processes}
use Rattle.za_alpha.specs.Words.{has}
use Rattle.za_alpha.specs.Procs.{members, no_process}
use Rattle.za_residue.specs.Masks.{is_under}
use Rattle.za_residue.proofs.leaving.join_sets.Given as goal

-- the first are joined
abbrev pub invariant-loop-i : goal.invariant-loop-i
invariant-loop-i l = record {
  long : length l.joined ≡ most_processes;
  small : (k : ℕ) → k < l.i → (slice_index_or l.joined k no_process).0 < 2 ^ 16;
  members : (k s : ℕ) → k < l.i → has (members (slice_index_or l.joined k no_process)) s
      ≡ (has (members (slice_index_or l.sets k no_process)) s || is_under l.masks k l.r s);
  same : IsTrue l.same → (k : ℕ) → k < l.i → slice_index_or l.joined k no_process ≡ slice_index_or l.sets k no_process;
}

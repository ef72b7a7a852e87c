use Rattle.std.proofs.Common.{◌≡◌, ℕ, ◌+◌, ◌*◌, ◌<◌, true, false, length}
use Rattle.std.specs.Prelude.{slice_index, slice_index_or}
use Rattle.za_alpha.specs.Words.{has}
use Rattle.za_alpha.specs.Procs.{members}
use Rattle.za_ids.specs.Numbers.{event_numbers}
use Rattle.za_ids.proofs.labels.mark_columns.Given as goal

abbrev pub invariant-loop-s : goal.invariant-loop-s
invariant-loop-s l = record {
  size : length l.taken ≡ length l.initial.taken;
  marked : (i s k : ℕ) → i < l.n * l.n → s < l.s → has (members l.processes) s ≡ true → k < l.labels →
      slice_index (event_numbers l.ids) (i * l.n + s) ≡ l.first.0 + k → slice_index_or l.taken k false ≡ true;
  sound : (k : ℕ) → k < l.labels → slice_index_or l.taken k false ≡ true → (j : ℕ) × (slice_index (event_numbers l.ids) j ≡ l.first.0 + k);
}

use Rattle.std.proofs.Common.{◌≡◌, ℕ, length, slice_index, vec_capacity}
use Rattle.za_alpha.specs.Procs.{members}
use Rattle.za_shared.specs.Private.Steps.{key_given, HaveChanged}
use Rattle.za_shared.proofs.seats.give.Given as goal

abbrev pub invariant-loop-p : goal.invariant-loop-p
invariant-loop-p l = record {
  size : length l.keys ≡ length l.initial.keys;
  keys : (q : ℕ) → slice_index l.keys q ≡ key_given (members l.processes) l.key l.p l.initial.keys q;
  changed : HaveChanged l.initial.shelf l.shelf l.initial.spares.items l.spares.items l.initial.keys l.keys;
  capacity : vec_capacity l.spares ≡ vec_capacity l.initial.spares;
}

use Rattle.std.proofs.Common.{◌≡◌, ◌≤◌, ◌+◌, ◌-◌, ◌==◌, ℕ, cond, length, slice_index}
use Rattle.std.specs.Prelude.{count_by}
use Rattle.za_alpha.specs.Procs.{members, members_below}
use Rattle.za_shared.specs.Private.Steps.{key_given, held_by}
use Rattle.za_shared.proofs.seats.turn.Given as goal

abbrev pub invariant-members : goal.invariant-members
invariant-members l = record {
  within : l.start ≤ length l.initial.keys;
  size : length l.keys ≡ length l.initial.keys;
  keys : (q : ℕ) → slice_index l.keys q ≡ key_given (members l.processes) l.key l.start l.initial.keys q;
  counts : (k : ℕ) → count_by (λ x. x == k) l.keys + held_by l.initial.keys (members_below l.processes l.start) k ≡
      count_by (λ x. x == k) l.initial.keys + cond (l.key == k) (length (members_below l.processes l.start)) 0;
}

abbrev pub decreases-members : goal.decreases-members
decreases-members l = 16 - l.start

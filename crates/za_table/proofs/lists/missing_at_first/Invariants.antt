use Rattle.za_table.specs.Private.Steps.{AreLocated}
use Rattle.std.proofs.Common.{◌≤◌, vec_capacity, length}
use Rattle.za_table.proofs.lists.missing_at_first.Given as goal

abbrev pub invariant-loop-a : goal.invariant-loop-a
invariant-loop-a l = record {
  done : AreLocated l.alphabet l.a l.missing.items;
  room : length l.alphabet.letters ≤ vec_capacity l.missing;
}

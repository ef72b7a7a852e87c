use Rattle.std.proofs.Common.{◌≡◌, replicate, None}
use Rattle.za_table.proofs.progress.nones.Given as goal

abbrev pub invariant-loop : goal.invariant-loop
invariant-loop l = l.items.items ≡ replicate l.counter None

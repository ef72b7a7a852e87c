use Rattle.std.proofs.Common.{◌==◌, take}
use Rattle.std.specs.Prelude.{count_by}
use Rattle.za_shared.specs.Private.Steps.{HaveMore}
use Rattle.za_shared.proofs.holders.leave.Given as goal

abbrev pub invariant-loop-i : goal.invariant-loop-i
invariant-loop-i l = HaveMore l.shelf l.initial.shelf (λ k. count_by (λ x. x == k) (take l.i l.keys))

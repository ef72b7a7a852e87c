use Rattle.std.proofs.Common.{◌^◌}
use Rattle.za_order.specs.Labels.{number_of}
use Rattle.za_ids.proofs.Marks.{AreMarked}
use Rattle.za_ids.proofs.labels.mark_labels.Given as goal

-- the labels are marked whose numbers are among the first
abbrev pub invariant-loop-id : goal.invariant-loop-id
invariant-loop-id l = AreMarked (number_of l.n l.fn.a.0) (l.n ^ 3) l.ids l.taken l.id-index

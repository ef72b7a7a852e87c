use Rattle.za_ids.specs.Numbers.{event_numbers}
use Rattle.za_ids.specs.Private.Marked.{HasMarked}
use Rattle.za_ids.proofs.labels.mark_column.Given as goal

abbrev pub invariant-loop-i : goal.invariant-loop-i
invariant-loop-i l = HasMarked (event_numbers l.ids) l.n l.i l.s l.first.0 l.labels l.initial.taken l.taken

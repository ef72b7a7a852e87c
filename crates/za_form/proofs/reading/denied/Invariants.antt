use Rattle.std.proofs.Common.{◌≡◌}
use Rattle.za_expression.specs.Private.Machine.{denied as denied_times}
use Rattle.za_form.specs.Private.Trees.{form}
use Rattle.za_form.proofs.reading.denied.Given as goal

abbrev pub invariant-loop-i : goal.invariant-loop-i
invariant-loop-i l = form l.whole ≡ denied_times l._i (form l.fn.inner)

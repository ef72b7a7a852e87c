use Rattle.za_shared.specs.Private.Steps.{named_before, HaveMore}
use Rattle.za_shared.proofs.holders.hold_inputs.Given as goal

abbrev pub invariant-loop-i : goal.invariant-loop-i
invariant-loop-i l = HaveMore l.initial.shelf l.shelf (named_before l.inputs l.output l.i)

use Rattle.std.proofs.Common.{◌≡◌, vec_capacity}
use Rattle.za_shared.specs.Private.Steps.{named_before, HaveFewer}
use Rattle.za_shared.proofs.holders.let_go_inputs.Given as goal

abbrev pub invariant-loop-i : goal.invariant-loop-i
invariant-loop-i l = HaveFewer l.initial.shelf l.shelf l.initial.spares.items l.spares.items (named_before l.inputs l.output l.i) ×
    (vec_capacity l.spares ≡ vec_capacity l.initial.spares)

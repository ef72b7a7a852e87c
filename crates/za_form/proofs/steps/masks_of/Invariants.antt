use Rattle.za_form.specs.Private.Sets.{AreMasks}
use Rattle.za_form.proofs.steps.masks_of.Given as goal

-- the masks of the letters so far
abbrev pub invariant-loop-a : goal.invariant-loop-a
invariant-loop-a l = AreMasks l.form l.a l.masks.items

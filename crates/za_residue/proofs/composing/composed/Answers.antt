use Rattle.std.proofs.Common.{ℕ, ◌<◌, subst, sym, ap, ◌∙◌}
use Rattle.std.proofs.lemmas.List.{get_or_default}
use Rattle.za_residue.specs.Functions.{Functions}
use Rattle.za_residue.specs.Private.Turns.{no_functions}
use Rattle.za_residue.proofs.composing.composed.Goals as goal

pub apply-state-requires-clause-state : goal.apply-state-requires-clause-state
apply-state-requires-clause-state c =
    let P : ℕ → Type 0 = λ n. c.loop-i.state < n in
    let here = get_or_default c.args.inputs.now c.loop-i.i c.index-inputs-i.result no_functions c.loop-i-test.true in
    subst P (sym (ap (λ (f : Functions). f.states) (c.index-inputs-i.is ∙ here) ∙ c.requires.same c.loop-i.i c.loop-i-test.true))
    (c.loop-i.invariant.1 c.requires)

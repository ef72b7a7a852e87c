use Rattle.std.proofs.Common.{Some, ◌∙◌, arith}
use Rattle.std.proofs.lemmas.List.{length-set}
use Rattle.za_local.specs.Private.Shared.{under_at}
use Rattle.za_local.proofs.Inputs.{few-rows}
use Rattle.za_local.proofs.Sets.{rows-more}
use Rattle.za_local.proofs.masks.set_under.Goals as goal

pub bounds-rows-i : goal.bounds-rows-i
bounds-rows-i c =
    let few = few-rows c.args.alphabet.now c.requires.whole c.requires.rows.0 (Some c.args.a) c.requires.letter c.args.inputs.now c.requires.rows.1 in
    let most = c.requires.whole.few_processes in
    let t = c.loop-i-test.true in
    omega arith

pub loop-i-preserved : goal.loop-i-preserved
loop-i-preserved c =
    let alphabet = c.args.alphabet.now in
    let k = c.loop-i.invariant in
    let few = few-rows alphabet c.requires.whole c.requires.rows.0 (Some c.args.a) c.requires.letter c.args.inputs.now c.requires.rows.1 in
    let most = c.requires.whole.few_processes in
    let t = c.loop-i-test.true in
    let long = k.0 in (
      length-set c.loop-i.rows c.loop-i.i c.set_under_of.new.sets ∙ k.0,
      λ w given. rows-more (under_at alphabet c.args.a.0 w) alphabet.processes c.loop-i.i c.loop-i.rows c.set_under_of.new.sets (omega arith) (k.1 w given)
          (c.set_under_of.ensures w given),
    )

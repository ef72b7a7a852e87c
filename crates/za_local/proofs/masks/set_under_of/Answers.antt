use Rattle.std.proofs.Common.{◌∙◌, arith}
use Rattle.std.proofs.lemmas.List.{length-set}
use Rattle.za_local.specs.Private.Shared.{under_at}
use Rattle.za_local.proofs.Sets.{sets-more}
use Rattle.za_local.proofs.masks.set_under_of.Goals as goal

pub loop-r-preserved : goal.loop-r-preserved
loop-r-preserved c =
    let alphabet = c.args.alphabet.now in
    let k = c.loop-r.invariant in
    let t = c.loop-r-test.true in
    let long = k.0 in
    let n = c.requires.processes in
    let few = c.requires.whole.few_processes in (
      length-set c.loop-r.sets c.loop-r.r c.under_of.result ∙ k.0,
      λ w given. sets-more (under_at alphabet c.args.a.0 w c.args.i) c.loop-r.r c.loop-r.sets c.under_of.result (omega arith) (k.1 w given)
          (c.under_of.ensures w given),
    )

use Rattle.std.proofs.Common.{◌≡◌, arith}
use Rattle.std.proofs.lemmas.Grind.{common_steps}
use Rattle.za_script.proofs.scripts.Scripts.copy.Goals as goal

pub invariant_of-result : goal.invariant_of-result
invariant_of-result c =
    let same : c.loop-word.words.items ≡ c.self.inside.words.items = grind (arith, common_steps) in
    record {
      counted = rw same c.self.invariant.counted;
      limits = rw same c.self.invariant.limits;
    }

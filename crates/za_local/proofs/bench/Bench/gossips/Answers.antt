use Rattle.std.proofs.Common.{take, ap, ◌∙◌}
use Rattle.za_local.proofs.Benches.{gossips-are}
use Rattle.za_local.proofs.bench.Bench.gossips.Goals as goal

pub returns : goal.returns
returns c = ap (take c.self.inside.len) c.deref.ensures.value ∙ gossips-are c.self.inside c.self.invariant c.args.self.now c.self.view_is

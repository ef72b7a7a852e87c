use Rattle.za_local.proofs.Benches.{length-is}
use Rattle.za_local.proofs.bench.Bench.len.Goals as goal

pub returns : goal.returns
returns c = length-is c.self.inside c.self.invariant c.args.self.now c.self.view_is

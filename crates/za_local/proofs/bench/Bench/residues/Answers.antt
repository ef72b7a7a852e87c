use Rattle.std.proofs.Common.{take, ap, ◌∙◌}
use Rattle.za_local.proofs.Benches.{residues-are}
use Rattle.za_local.proofs.bench.Bench.residues.Goals as goal

pub returns : goal.returns
returns c = ap (take c.self.inside.len) c.deref.ensures.value ∙ residues-are c.self.inside c.self.invariant c.args.self.now c.self.view_is

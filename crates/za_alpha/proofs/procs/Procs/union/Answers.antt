use Rattle.za_alpha.proofs.Members.{has-union}
use Rattle.za_alpha.proofs.procs.Procs.union.Goals as goal

pub returns : goal.returns
returns c q = has-union c.args.self.0 c.args.other.0 q

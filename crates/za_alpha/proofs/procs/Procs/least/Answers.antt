use Rattle.za_alpha.proofs.Members.{least-of-all}
use Rattle.za_alpha.proofs.procs.Procs.least.Goals as goal

pub returns : goal.returns
returns c = least-of-all c.args.self c.least_from.result c.least_from.ensures.least

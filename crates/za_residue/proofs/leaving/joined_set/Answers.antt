use Rattle.za_alpha.proofs.Members.{has-union}
use Rattle.za_residue.proofs.leaving.joined_set.Goals as goal

pub returns-clause-members : goal.returns-clause-members
returns-clause-members c = λ s. has-union c.args.set.0 c.args.more.0 s

use Rattle.za_alpha.proofs.Members.{members-zero}
use Rattle.za_alpha.proofs.procs.Procs.none.Goals as goal

pub returns-clause-empty : goal.returns-clause-empty
returns-clause-empty c = members-zero

use Rattle.za_expr.proofs.Jobs.{built_are_jobs}
use Rattle.za_expr.proofs.Judged.{built_or_refused}
use Rattle.za_expr.proofs.laws.documents_are_built_or_refused.Goals as goal

pub returns-clause-job : goal.returns-clause-job
returns-clause-job c = built_are_jobs

pub returns-clause-text : goal.returns-clause-text
returns-clause-text c = built_or_refused

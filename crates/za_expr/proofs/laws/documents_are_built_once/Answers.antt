use Rattle.za_expr.proofs.Once.{documents_have_one_job, built_once, built_have_no_fault}
use Rattle.za_expr.proofs.laws.documents_are_built_once.Goals as goal

pub returns-clause-job : goal.returns-clause-job
returns-clause-job c = documents_have_one_job

pub returns-clause-text : goal.returns-clause-text
returns-clause-text c = built_once

pub returns-clause-right : goal.returns-clause-right
returns-clause-right c = built_have_no_fault

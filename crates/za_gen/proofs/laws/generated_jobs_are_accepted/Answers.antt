use Rattle.za_gen.proofs.Jobs.{are_jobs, are_closed, are_accepted, fire_all, are_few}
use Rattle.za_gen.proofs.laws.generated_jobs_are_accepted.Goals as goal

pub returns-clause-jobs : goal.returns-clause-jobs
returns-clause-jobs c = are_jobs

pub returns-clause-closed : goal.returns-clause-closed
returns-clause-closed c = are_closed

pub returns-clause-accepted : goal.returns-clause-accepted
returns-clause-accepted c = are_accepted

pub returns-clause-all : goal.returns-clause-all
returns-clause-all c = fire_all

pub returns-clause-few : goal.returns-clause-few
returns-clause-few c = are_few

use Rattle.zielonka.proofs.Causes.{usage, words_decide, words_decide_job, job_completes, read_fault, write_fault, counts, too_long, too_many_decide}
use Rattle.zielonka.proofs.Causes.{too_many_complete, no_memory, all_read, known, completes}
use Rattle.zielonka.proofs.laws.statuses_have_their_causes.Goals as goal

pub returns-clause-usage : goal.returns-clause-usage
returns-clause-usage c = usage

pub returns-clause-words : goal.returns-clause-words
returns-clause-words c = words_decide

pub returns-clause-words_job : goal.returns-clause-words_job
returns-clause-words_job c = words_decide_job

pub returns-clause-job_completes : goal.returns-clause-job_completes
returns-clause-job_completes c = job_completes

pub returns-clause-read_fault : goal.returns-clause-read_fault
returns-clause-read_fault c = read_fault

pub returns-clause-write_fault : goal.returns-clause-write_fault
returns-clause-write_fault c = write_fault

pub returns-clause-counts : goal.returns-clause-counts
returns-clause-counts c = counts

pub returns-clause-too_long : goal.returns-clause-too_long
returns-clause-too_long c = too_long

pub returns-clause-too_many : goal.returns-clause-too_many
returns-clause-too_many c = too_many_decide

pub returns-clause-too_many_complete : goal.returns-clause-too_many_complete
returns-clause-too_many_complete c = too_many_complete

pub returns-clause-no_memory : goal.returns-clause-no_memory
returns-clause-no_memory c = no_memory

pub returns-clause-all_read : goal.returns-clause-all_read
returns-clause-all_read c = all_read

pub returns-clause-known : goal.returns-clause-known
returns-clause-known c = known

pub returns-clause-completes : goal.returns-clause-completes
returns-clause-completes c = completes

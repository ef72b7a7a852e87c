use Rattle.zielonka.proofs.AuditedJournals.{due_journals, journals}
use Rattle.zielonka.proofs.laws.journals_are_audited_yes.Goals as goal

pub returns-clause-due : goal.returns-clause-due
returns-clause-due c = due_journals

pub returns-clause-written : goal.returns-clause-written
returns-clause-written c = journals

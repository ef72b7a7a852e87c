use Rattle.zielonka.proofs.OneOutput.{threads_answer_as_one}
use Rattle.zielonka.proofs.SomeOutput.{journal_ends_as_one}
use Rattle.zielonka.proofs.laws.threads_answer_as_one.Goals as goal

pub returns-clause-run : goal.returns-clause-run
returns-clause-run c = threads_answer_as_one

pub returns-clause-journal : goal.returns-clause-journal
returns-clause-journal c = journal_ends_as_one

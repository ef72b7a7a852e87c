use Rattle.std.proofs.Common.{refl}
use Rattle.za_lang.specs.Answers.{data_of}
use Rattle.za_query.specs.Judged.{SaysBreak}
use Rattle.zielonka.specs.Private.Saying.{subject_in}
use Rattle.zielonka.proofs.JudgedLemmas.{break-due}
use Rattle.zielonka.proofs.judging.judge_subject.Goals as goal

pub returns-in-Open : goal.returns-in-Open
returns-in-Open c =
    let said : SaysBreak (data_of c.args.subject.job) c.in-Open.said = rw c.in-Open.is at c.in_ok-said.ensures in
    break-due (subject_in c.args.subject) c.in-Open.said c.requires said

pub returns-in-Closed : goal.returns-in-Closed
returns-in-Closed c =
    let automaton = rw c.in-Closed.is at c.in_ok-said.ensures in
    (record { job = c.requires; minimal = automaton.minimal; closed = automaton.closed }, refl)

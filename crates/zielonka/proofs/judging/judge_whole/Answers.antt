use Rattle.std.proofs.Common.{List, ℕ, sym, subst}
use Rattle.zielonka.specs.Output.{IsOutput, Refused}
use Rattle.zielonka.specs.Private.Saying.{AreJudged, IsJudged, subject_in}
use Rattle.zielonka.proofs.DueLemmas.{ok_map}
use Rattle.zielonka.proofs.JudgedLemmas.{judged-bytes}
use Rattle.zielonka.proofs.OneOutput.{not-read}
use Rattle.zielonka.proofs.judging.judge_whole.Goals as goal

pub returns-in-Ok : goal.returns-in-Ok
returns-in-Ok c =
    let subject = subject_in c.in-Ok.subject in
    let read = c.in-Ok.ensures in
    ok_map c.judge_subject.result (IsJudged subject) (AreJudged c.args.command c.args.bytes.now)
    (λ judged. judged-bytes c.args.command c.args.bytes.now subject judged c.requires.whole read.answer.0 read.answer.1 read.job) c.judge_subject.ensures

pub returns-in_ok-refused_text-in-Text : goal.returns-in_ok-refused_text-in-Text
returns-in_ok-refused_text-in-Text c = (
  subst (λ (t : List ℕ). IsOutput c.args.command c.args.bytes.now 4 t) (sym c.in_ok-refused_text-in-Text.ensures)
      (Refused c.in-Text.fault (rw c.in-Text.is at c.in-Err.ensures.answer)),
  λ are. not-read c.args.command c.args.bytes.now c.in-Text.fault (rw c.in-Text.is at c.in-Err.ensures.answer) are.read,
)

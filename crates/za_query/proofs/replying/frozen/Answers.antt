use Rattle.std.proofs.Common.{ℕ, List, sym, subst}
use Rattle.za_lang.specs.Answers.{data_of}
use Rattle.za_query.specs.declared.query.Query.TheVariants.{Freeze}
use Rattle.za_query.specs.Replies.{IsReply, Frozen}
use Rattle.za_query.proofs.Refusals.{refusal-replied, break-replied}
use Rattle.za_query.proofs.replying.frozen.Goals as goal

pub returns-in-Open : goal.returns-in-Open
returns-in-Open c =
    let read = c.in-Ok.ensures in
    break-replied (Freeze c.args.cut) c.args.bytes.now (data_of c.in-Ok.job) c.in-Open.said (read.answer.0, read.job, read.answer.1)
    (rw c.in-Open.is at c.in_ok-said-in-Ok.ensures)

pub returns-in-Ok : goal.returns-in-Ok
returns-in-Ok c =
    let read = c.in-Ok.ensures in
    let judged = rw c.in-Closed.is at c.in_ok-said-in-Ok.ensures in
    subst (λ (t : List ℕ). IsReply (Freeze c.args.cut) c.args.bytes.now 0 t) (sym c.in_ok-freeze-in-Closed.ensures)
    (Frozen c.args.bytes.now (data_of c.in-Ok.job) c.args.cut c.in-Closed.closed (read.answer.0, read.job, read.answer.1) judged)

pub returns : goal.returns
returns c = refusal-replied (Freeze c.args.cut) c.args.bytes.now c.in-Err.fault c.refused.result (λ f is. rw is at c.in-Err.ensures.answer) c.refused.ensures

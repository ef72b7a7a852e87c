use Rattle.std.proofs.Common.{ℕ, List, sym, ap, subst, ◌∙◌}
use Rattle.za_lang.specs.Answers.{data_of}
use Rattle.za_news.specs.Texts.{news_text}
use Rattle.za_query.specs.declared.query.Query.TheVariants.{News}
use Rattle.za_query.specs.Replies.{IsReply, Told}
use Rattle.za_query.proofs.Refusals.{refusal-replied, break-replied}
use Rattle.za_query.proofs.replying.news.Goals as goal

pub returns-in-Open : goal.returns-in-Open
returns-in-Open c =
    let read = c.in-Ok.ensures in
    break-replied News c.args.bytes.now (data_of c.in-Ok.news.job) c.in-Open.refusal (read.answer.0, read.job, read.answer.1)
    (rw c.in-Open.is at c.in_ok-refusal-in-Ok.ensures)

pub returns-in-Ok : goal.returns-in-Ok
returns-in-Ok c =
    let read = c.in-Ok.ensures in
    let job = data_of c.in-Ok.news.job in
    let judged = rw c.in-Closed.is at c.in_ok-refusal-in-Ok.ensures in
    subst (λ (t : List ℕ). IsReply News c.args.bytes.now 0 t) (sym (c.in_ok-news_text-in-Closed.ensures ∙ ap (news_text job) read.answer.2))
    (Told c.args.bytes.now job (read.answer.0, read.job, read.answer.1) judged.closed)

pub returns : goal.returns
returns c = refusal-replied News c.args.bytes.now c.in-Err.fault c.refused.result (λ f is. rw is at c.in-Err.ensures.answer) c.refused.ensures

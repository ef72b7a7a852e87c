use Rattle.std.proofs.Common.{◌≡◌, ◌≤◌, ℕ, List, length, refl, sym, subst, ap, arith}
use Rattle.za_query.specs.Replies.{IsReply}
use Rattle.zielonka.specs.Limits.{most_bytes}
use Rattle.zielonka.specs.declared.request.Request.TheVariants.{Ask as AsksReply}
use Rattle.zielonka.specs.Run.{Said, NoMemory}
use Rattle.zielonka.proofs.RunLemmas.{said-since, reads-unread}
use Rattle.zielonka.proofs.ShownLemmas.{none-by-request, ended-silent, ended-telling}
use Rattle.zielonka.proofs.run.ask.Goals as goal

pub reply-requires : goal.reply-requires
reply-requires g c =
    let read = c.in-Ok.ensures (AsksReply c.args.query) refl in
    let few : length c.in-Ok.bytes.items ≤ most_bytes = read.0.0 in
    let size : length c.as_slice.result.now ≡ length c.in-Ok.bytes.items = ap length c.as_slice.ensures.value in omega arith

pub returns-in-Err : goal.returns-in-Err
returns-in-Err g c = c.in-Err.ensures (AsksReply c.args.query) refl

pub returns-in-Err-reply : goal.returns-in-Err-reply
returns-in-Err-reply g c =
    let read = c.in-Ok.ensures (AsksReply c.args.query) refl in
    let none = c.unshown.ensures in
    ended-silent _ _ _ _ 8 none.status none.shown
    (NoMemory ((c.in-Ok.bytes.items, (read.0.1, read.0.0)), λ unread. reads-unread (AsksReply c.args.query) refl unread) read.0.3 read.1) refl

pub returns : goal.returns
returns g c =
    let query = c.args.query in
    let bytes = c.in-Ok.bytes.items in
    let read = c.in-Ok.ensures (AsksReply query) refl in
    let said = c.in-Ok-reply.said in
    let text = c.as_slice-in-Ok-reply.result.now in
    let reply = subst (λ (t : List ℕ). IsReply query bytes said.status t) (sym c.as_slice-in-Ok-reply.ensures.value)
    (subst (λ (b : List ℕ). IsReply query b said.status said.text.items) c.as_slice.ensures.value c.in-Ok-reply.ensures) in
    ended-telling _ _ _ _ said.status text (Said bytes said.status text read.0 reply)
    (said-since said.status text _ _ _ _ _ _ _ read.1.0 read.1.1 c.tell.ensures.said) c.tell.ensures.shown
    (none-by-request _ _ _ _ (λ command asks. absurd (cc)))

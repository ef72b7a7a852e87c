use Rattle.std.proofs.Common.{◌≡◌, ◌≤◌, ℕ, List, length, refl, sym, subst, ap, arith}
use Rattle.zielonka.specs.Limits.{most_bytes}
use Rattle.zielonka.specs.Output.{IsOutput}
use Rattle.zielonka.specs.Run.{Said, NoMemory}
use Rattle.zielonka.specs.Private.Saying.{AreJudged}
use Rattle.zielonka.specs.declared.request.Request.TheVariants.{Answer as Asks}
use Rattle.zielonka.proofs.RunLemmas.{said-since, reads-unread}
use Rattle.zielonka.proofs.ShownLemmas.{none-by-bytes, ended-silent, ended-telling}
use Rattle.zielonka.proofs.run.take.Goals as goal

pub judge-requires : goal.judge-requires
judge-requires g c =
    let read = c.in-Ok.ensures (Asks c.args.command) refl in
    let few : length c.in-Ok.bytes.items ≤ most_bytes = read.0.0 in
    let size : length c.as_slice.result.now ≡ length c.in-Ok.bytes.items = ap length c.as_slice.ensures.value in omega arith

pub returns-in-Err : goal.returns-in-Err
returns-in-Err g c = c.in-Err.ensures (Asks c.args.command) refl

pub returns-in-Err-judge : goal.returns-in-Err-judge
returns-in-Err-judge g c =
    let read = c.in-Ok.ensures (Asks c.args.command) refl in
    let none = c.unshown.ensures in
    ended-silent _ _ _ _ 8 none.status none.shown
    (NoMemory ((c.in-Ok.bytes.items, (read.0.1, read.0.0)), λ unread. reads-unread (Asks c.args.command) refl unread) read.0.3 read.1) refl

pub returns-in-Ok-Refused : goal.returns-in-Ok-Refused
returns-in-Ok-Refused g c =
    let read = c.in-Ok.ensures (Asks c.args.command) refl in
    let said = c.in-Ok-Refused.said in
    let text = c.as_slice-in-Ok-Refused.result.now in
    let judged = rw c.in-Ok-Refused.field-0-is at (subst (λ b. AreJudged c.args.command b c.in-Ok-Refused.field-0) c.as_slice.ensures.value
    c.in-Ok-Refused.ensures) in
    let told = c.tell.ensures in
    ended-telling _ _ _ _ said.status text
    (Said c.in-Ok.bytes.items said.status text read.0
    (subst (λ (t : List ℕ). IsOutput c.args.command c.in-Ok.bytes.items said.status t) (sym c.as_slice-in-Ok-Refused.ensures.value) judged.0))
    (said-since said.status text _ _ _ _ _ _ _ read.1.0 read.1.1 told.said) told.shown
    (none-by-bytes _ _ _ _ c.args.command c.in-Ok.bytes.items refl read.0 judged.1)

pub returns-in-Ok-Ready : goal.returns-in-Ok-Ready
returns-in-Ok-Ready g c =
    let read = c.in-Ok.ensures (Asks c.args.command) refl in
    let judged = rw c.in-Ok-Ready.field-0-is at (subst (λ b. AreJudged c.args.command b c.in-Ok-Ready.field-0) c.as_slice.ensures.value
    c.in-Ok-Ready.ensures) in
    record { asks = refl; bytes = c.in-Ok.bytes.items; all = read.0; nothing = read.1; is = judged }

pub returns : goal.returns
returns g c =
    let read = c.in-Ok.ensures (Asks c.args.command) refl in
    let judged = rw c.in-Ok-Rest.field-0-is at (subst (λ b. AreJudged c.args.command b c.in-Ok-Rest.field-0) c.as_slice.ensures.value c.in-Ok-Rest.ensures) in
    record { asks = ap Asks judged.0; bytes = c.in-Ok.bytes.items; all = read.0; nothing = read.1; is = (refl, judged.1) }

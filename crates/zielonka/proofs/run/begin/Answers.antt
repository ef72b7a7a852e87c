use Rattle.std.proofs.Common.{sym, ap, ◌∙◌, refl}
use Rattle.zielonka.specs.Output.{usage_text}
use Rattle.zielonka.specs.Run.{reads_bytes, Usage, NoMemory}
use Rattle.zielonka.proofs.Causes.{usage-not-read}
use Rattle.zielonka.proofs.RunLemmas.{took-nothing}
use Rattle.zielonka.proofs.ShownLemmas.{none-by-request, ended-silent, ended-telling, ended-job}
use Rattle.zielonka.proofs.run.begin.Goals as goal

pub returns-in-Err : goal.returns-in-Err
returns-in-Err g c = ended-silent _ _ _ _ 8 c.unshown.ensures.status c.unshown.ensures.shown (NoMemory (took-nothing _, λ unread. refl) refl (refl, refl)) refl

pub returns-in-Ok-Usage : goal.returns-in-Ok-Usage
returns-in-Ok-Usage g c =
    let asks = sym c.in-Ok-Usage.ensures ∙ c.in-Ok-Usage.field-0-is in
    ended-telling _ _ _ _ 2 usage_text (Usage asks (refl, refl)) c.tell.ensures.said c.tell.ensures.shown
    (none-by-request _ _ _ _ (λ command reads. usage-not-read asks (ap reads_bytes reads)))

pub returns-in-Err-job_of : goal.returns-in-Err-job_of
returns-in-Err-job_of g c =
    let none = c.unshown-in-Err-job_of.ensures in
    ended-silent _ _ _ _ 8 none.status none.shown (NoMemory (took-nothing _, λ unread. refl) refl (refl, refl)) refl

pub returns-in-Ok : goal.returns-in-Ok
returns-in-Ok g c =
    let job = c.in-Ok-Generate in
    let asks = sym job.ensures ∙ job.field-0-is in
    let told = c.tell-in-Ok.ensures in
    ended-job _ _ _ _ job.number c.as_slice.result.now asks (refl, refl) (c.as_slice.ensures.value ∙ c.in-Ok.ensures.text) told.said told.shown

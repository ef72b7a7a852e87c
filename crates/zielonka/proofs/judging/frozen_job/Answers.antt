use Rattle.std.proofs.Common.{◌≡◌, ◌∙◌, ap, sym, Some, None}
use Rattle.za_lang.specs.Documents.{fault_of, job_of}
use Rattle.zielonka.proofs.FrozenLemmas.{frozen-document}
use Rattle.zielonka.proofs.judging.frozen_job.Goals as goal

pub returns-in-Ok : goal.returns-in-Ok
returns-in-Ok c = c.in-Ok.ensures.answer.1 ∙ ap job_of c.divide.ensures.before

pub unreachable-requires : goal.unreachable-requires
unreachable-requires c =
    let right : fault_of c.divide.result.before.now ≡ None = ap fault_of c.divide.ensures.before ∙ frozen-document c.args.bytes.now c.requires.right in
    let wrong : fault_of c.divide.result.before.now ≡ Some c.in-Text.field-0 = rw c.in-Text.is at c.in-Err.ensures.answer in
    absurd (let both : None ≡ Some c.in-Text.field-0 = sym right ∙ wrong in cc)

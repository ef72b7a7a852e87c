use Rattle.std.proofs.Common.{ℕ, List, refl, sym, ap, subst, ◌∙◌}
use Rattle.za_alpha.specs.Alphabet.{DistributedAlphabet}
use Rattle.za_audit.specs.Verdicts.{NamesLetterOf}
use Rattle.za_lang.specs.Answers.{data_of}
use Rattle.za_report.specs.Audits.{audit_text}
use Rattle.zielonka.specs.declared.request.Command.TheVariants.{Audit}
use Rattle.zielonka.specs.Output.{IsAnswered, Audited, status_of_verdict}
use Rattle.zielonka.specs.Private.Saying.{OfNone}
use Rattle.zielonka.proofs.due.judged.Goals as goal

pub audit_text-requires : goal.audit_text-requires
audit_text-requires c =
    subst (λ (a : DistributedAlphabet). NamesLetterOf a c.in_ok-verdict.verdict) (sym c.alphabet.ensures) c.in_ok-verdict.ensures.letter

pub returns-clause-answered : goal.returns-clause-answered
returns-clause-answered c =
    let job = data_of c.args.it.now.job in
    let claim = c.args.it.now.claim in
    let verdict = c.in_ok-verdict.verdict in
    let text = c.in_ok-text.ensures ∙ ap (λ (a : DistributedAlphabet). audit_text a verdict) c.alphabet.ensures in
    subst (λ (s : ℕ). IsAnswered job claim Audit s c.in_ok-text.text.items) (sym c.status_of_verdict.ensures)
    (subst (λ (t : List ℕ). IsAnswered job claim Audit (status_of_verdict verdict) t) (sym text)
    (Audited c.args.claim.now verdict c.requires.claim c.in_ok-verdict.ensures.verdict))

pub returns-clause-made : goal.returns-clause-made
returns-clause-made c = OfNone refl

-- What `journal` writes is right: `audit` says yes to it.
use Rattle.std.specs.Prelude.{◌≡◌, ℕ, ◌==◌, Bool, List, [], ◌∷◌, ◌++◌, Some, None, IsTrue}
use Rattle.std.specs.List.{list_any}
use Rattle.za_base.specs.Ends.{Ends}
use Rattle.za_lang.specs.Documents.{job_of}
use Rattle.za_claim.specs.Audited.{audited_fault, audited_job, audited_claim}
use Rattle.za_audit.specs.declared.verdict.Audit as verdict
use Rattle.za_audit.specs.Verdicts.{IsVerdict}
use Rattle.za_report.specs.Audits.{audit_text}
use Rattle.zielonka.specs.declared.request.Command.TheVariants.{Journal, Audit}
use Rattle.zielonka.specs.declared.request.Request.TheVariants.{Answer as Asks}
use Rattle.zielonka.specs.Output.{IsOutput, is_yes}
use Rattle.zielonka.specs.Run.{WroteAll, HasRun}

-- whether a status is that of an answer
abbrev pub is_of_an_answer : ℕ → Bool
is_of_an_answer status = list_any (λ s. s == status) (0 ∷ 1 ∷ 3 ∷ [])

-- the bytes and then the text are an audited text, whose job is that of the bytes, and the verdict on its claim is yes;
-- so that is what `audit` is due to say
pub record IsAuditedYes (bytes text : List ℕ) : Type 0 where
  pub right : audited_fault (bytes ++ text) ≡ None
  pub job : audited_job (bytes ++ text) ≡ job_of bytes
  pub verdict : verdict.Audit
  pub is : IsVerdict (job_of bytes) (audited_claim (bytes ++ text)) verdict
  pub yes : IsTrue (is_yes verdict)
  pub due : IsOutput Audit (bytes ++ text) 0 (audit_text (job_of bytes).lang.alphabet verdict)

-- of bytes and every text that `journal` is due to write for them, in whatever order the threads fired the letters
abbrev pub DueJournalsAreAuditedYes : Type 0
DueJournalsAreAuditedYes =
    (cache : ℕ) (bytes : List ℕ) (status : ℕ) (text : List ℕ) → IsOutput (Journal cache) bytes status text →
    IsTrue (is_of_an_answer status) → IsAuditedYes bytes text

-- `journal` was asked for, and it ended with the status of an answer: it wrote a text whole that is such a one for the
-- bytes that the source had
abbrev pub JournalsAreAuditedYes : Type 0
JournalsAreAuditedYes =
    (cache : ℕ) (bytes : List ℕ) (old new : Ends) (status : ℕ) → HasRun (Asks (Journal cache)) old new status →
    old.left ≡ Some bytes → IsTrue (is_of_an_answer status) →
    (text : List ℕ) × WroteAll old new text × IsAuditedYes bytes text

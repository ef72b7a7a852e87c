-- Laws of printed claims.
use Rattle.std.specs.Prelude.{◌≡◌, ℕ, List, None, ◌++◌}
use Rattle.za_lang.specs.Documents as document
use Rattle.za_lang.specs.Jobs.{JobData, IsJob}
use Rattle.za_print.specs.Printed as job
use Rattle.za_claim.specs.Claims.{ClaimData, AreClaimedEvents}
use Rattle.za_claim.specs.Audited.{audited_fault, audited_job, audited_claim}
use Rattle.za_claim.specs.Printed.{printed_claim}

-- a document that isn't refused and then the printed form of a claim about its job are an audited text, and say this
-- job and this claim
abbrev pub ClaimsFollowDocuments : Type 0
ClaimsFollowDocuments =
    (bytes : List ℕ) (claim : ClaimData) → document.fault_of bytes ≡ None →
    AreClaimedEvents (document.job_of bytes).lang.alphabet claim.events →
    let text = bytes ++ printed_claim (document.job_of bytes).lang.alphabet claim in
    (audited_fault text ≡ None) × (audited_job text ≡ document.job_of bytes) × (audited_claim text ≡ claim)

-- so are the printed form of a job and then of a claim about it
abbrev pub ClaimsAreReadBack : Type 0
ClaimsAreReadBack =
    (j : JobData) (claim : ClaimData) → IsJob j → AreClaimedEvents j.lang.alphabet claim.events →
    let text = job.printed j ++ printed_claim j.lang.alphabet claim in
    (audited_fault text ≡ None) × (audited_job text ≡ j) × (audited_claim text ≡ claim)

-- A claim has one verdict.
use Rattle.std.specs.Prelude.{◌≡◌}
use Rattle.za_lang.specs.Jobs.{JobData}
use Rattle.za_claim.specs.Claims.{ClaimData}
use Rattle.za_audit.specs.declared.verdict.Audit.{Audit}
use Rattle.za_audit.specs.Verdicts.{IsVerdict}

-- two verdicts on a claim are equal
abbrev pub VerdictsAreOne : Type 0
VerdictsAreOne =
    (job : JobData) (claim : ClaimData) (a b : Audit) → IsVerdict job claim a → IsVerdict job claim b → a ≡ b

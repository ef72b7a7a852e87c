-- Audited texts: a job, and a claim about it.
use Rattle.std.specs.Prelude.{ℕ, Bool, List, [], length, codes, Option}
use Rattle.std.specs.Option.{option_or}
use Rattle.za_alpha.specs.Alphabet.{DistributedAlphabet}
use Rattle.za_text.specs.Lines.{RawLine, lines_of}
use Rattle.za_text.specs.Divided.{begins_with, bytes_of_lines, lines_through, lines_after}
use Rattle.za_text.specs.declared.kind.TextFault.{TextFault}
use Rattle.za_lang.specs.declared.version.Version.{Version}
use Rattle.za_lang.specs.Documents as document
use Rattle.za_lang.specs.Jobs.{JobData}
use Rattle.za_claim.specs.Claims.{ClaimData}
use Rattle.za_claim.specs.Grammar.{told, claim_faults_from}

-- whether the first word of a line is `end`: the first such line is the last one of the job
abbrev pub is_end_line : RawLine → Bool
is_end_line line = begins_with (codes "end") line

abbrev pub lines_of_job : List ℕ → List RawLine
lines_of_job bytes = lines_through is_end_line (lines_of bytes)

abbrev pub lines_of_claim : List ℕ → List RawLine
lines_of_claim bytes = lines_after is_end_line (lines_of bytes)

-- the document that the text begins with
abbrev pub job_bytes : List ℕ → List ℕ
job_bytes bytes = bytes_of_lines (lines_of_job bytes)

-- the job that this document says
abbrev pub audited_job : List ℕ → JobData
audited_job bytes = document.job_of (job_bytes bytes)

-- the claim that lines say about a job of the version and over the alphabet
abbrev pub claim_said : Version → DistributedAlphabet → List RawLine → ClaimData
claim_said version alphabet lines =
    let s = told version alphabet lines in record { answer = s.answer; events = s.events }

-- the claim that the lines after the document say
abbrev pub audited_claim : List ℕ → ClaimData
audited_claim bytes =
    let job = audited_job bytes in claim_said job.naming.version job.lang.alphabet (lines_of_claim bytes)

-- the refusal of a text: that of its document, and else that of its claim
abbrev pub audited_fault : List ℕ → Option TextFault
audited_fault bytes =
    let job = audited_job bytes in
    let after_job = length (lines_of_job bytes) in
    option_or (document.fault_of (job_bytes bytes))
    (claim_faults_from job.naming.version job.lang.alphabet after_job [] (lines_of_claim bytes))

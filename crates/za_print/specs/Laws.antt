-- Laws of printed jobs.
use Rattle.std.specs.Prelude.{◌≡◌, None}
use Rattle.za_lang.specs.Jobs.{JobData, IsJob}
use Rattle.za_lang.specs.Documents.{fault_of, job_of}
use Rattle.za_print.specs.Printed.{printed}

-- the printed form of a job is a document, and says this job
abbrev pub AreReadBack : Type 0
AreReadBack = (job : JobData) → IsJob job → (fault_of (printed job) ≡ None) × (job_of (printed job) ≡ job)

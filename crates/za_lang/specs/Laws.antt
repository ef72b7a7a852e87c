-- What the text of a document is.
use Rattle.std.specs.Prelude.{◌≡◌, ℕ, List, None}
use Rattle.za_lang.specs.Jobs.{IsJob}
use Rattle.za_lang.specs.Documents.{fault_of, job_of}

-- a text that isn't refused is a job
abbrev pub DocumentsAreJobs : Type 0
DocumentsAreJobs = (bytes : List ℕ) → fault_of bytes ≡ None → IsJob (job_of bytes)

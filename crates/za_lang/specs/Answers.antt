-- What a reader of documents answers.
use Rattle.std.specs.Prelude.{◌≡◌, ℕ, List, Option, Some}
use Rattle.za_text.specs.declared.kind.Kind.TheVariants.{NotOfProcess, ScriptsFull}
use Rattle.za_text.specs.declared.kind.TextFault.{TextFault}
use Rattle.za_script.specs.declared.fault.ScriptFault.{ScriptFault}
use Rattle.za_script.specs.declared.fault.ScriptFault.TheVariants as script_fault
use Rattle.za_lang.specs.declared.job.Job.{Job}
use Rattle.za_lang.specs.declared.fault.JobFault.{JobFault}
use Rattle.za_lang.specs.declared.fault.JobFault.TheVariants as job_fault
use Rattle.za_lang.specs.declared.fault.Refusal.{Refusal}
use Rattle.za_lang.specs.declared.fault.Refusal.TheVariants as refusal
use Rattle.za_lang.specs.Jobs.{JobData}
use Rattle.za_lang.specs.Documents.{fault_of}

-- the names, the language and the scripts of a job
abbrev pub data_of : Job → JobData
data_of job = record { naming = job.lang.naming; lang = job.lang.table; scripts = job.scripts }

-- a text is refused with this fault, unless memory was refused
abbrev pub IsRefusedWith : Option TextFault → JobFault → Type 0
IsRefusedWith fault (job_fault.Text seen) = fault ≡ Some seen
IsRefusedWith fault job_fault.OutOfMemory = Unit {0}

-- the text of a document is refused so
abbrev pub IsRefused : List ℕ → JobFault → Type 0
IsRefused bytes refusal = IsRefusedWith (fault_of bytes) refusal

-- a refusal at a line
abbrev pub fault_at : ℕ → Refusal → JobFault
fault_at line (refusal.Wrong kind) = job_fault.Text (record { line = line; kind = kind })
fault_at line refusal.OutOfMemory = job_fault.OutOfMemory

-- why a script letter isn't taken
abbrev pub refusal_of_step : ScriptFault → Refusal
refusal_of_step (script_fault.Foreign p a) = refusal.Wrong NotOfProcess
refusal_of_step script_fault.Full = refusal.Wrong ScriptsFull
refusal_of_step script_fault.OutOfMemory = refusal.OutOfMemory

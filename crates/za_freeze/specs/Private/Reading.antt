-- Faults of jobs and of languages as faults of frozen texts.
use Rattle.std.specs.Prelude.{◌≡◌, ℕ, List, Some}
use Rattle.za_closure.specs.declared.closing.Open.{Open}
use Rattle.za_closure.specs.declared.closing.Open.TheVariants as language
use Rattle.za_lang.specs.declared.fault.JobFault.{JobFault}
use Rattle.za_lang.specs.declared.fault.JobFault.TheVariants as job_fault
use Rattle.za_freeze.specs.declared.thawing.ThawFault.{ThawFault}
use Rattle.za_freeze.specs.declared.thawing.ThawFault.TheVariants as thaw_fault
use Rattle.za_freeze.specs.Thawing.{reading_fault, fault_against}

abbrev pub fault_of_job : JobFault → ThawFault
fault_of_job (job_fault.Text fault) = thaw_fault.Text fault
fault_of_job job_fault.OutOfMemory = thaw_fault.OutOfMemory

abbrev pub fault_of_language : Open → ThawFault
fault_of_language (language.NotClosed left right) = thaw_fault.NotClosed left right
fault_of_language language.OutOfMemory = thaw_fault.OutOfMemory

-- the text is refused so before its language is looked at, unless memory was refused
abbrev pub IsUnread : List ℕ → JobFault → Type 0
IsUnread bytes (job_fault.Text fault) = reading_fault bytes ≡ Some fault
IsUnread bytes job_fault.OutOfMemory = Unit {0}

-- the text is refused so since it isn't the other, unless memory was refused
abbrev pub IsUnlike : List ℕ → List ℕ → ThawFault → Type 0
IsUnlike own bytes (thaw_fault.Text fault) = fault_against own bytes ≡ Some fault
IsUnlike own bytes (thaw_fault.NotClosed left right) = ⊥
IsUnlike own bytes thaw_fault.OutOfMemory = Unit {0}

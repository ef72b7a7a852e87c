-- Laws of documents with an expression.
use Rattle.std.specs.Prelude.{◌≡◌, ℕ, ◌⊎◌, List, Option, Some, None}
use Rattle.za_text.specs.declared.kind.TextFault.{TextFault}
use Rattle.za_lang.specs.Jobs.{JobData, IsJob}
use Rattle.za_expr.specs.Documents.{HasFault}
use Rattle.za_expr.specs.Built.{IsJobOf, IsBuilt}

-- a text has one fault, or none: so it is refused exactly where it has one
abbrev pub TextsHaveOneFault : Type 0
TextsHaveOneFault = (bytes : List ℕ) (a b : Option TextFault) → HasFault bytes a → HasFault bytes b → a ≡ b

-- a document has one job at most
abbrev pub DocumentsHaveOneJob : Type 0
DocumentsHaveOneJob = (bytes : List ℕ) (a b : JobData) → IsJobOf bytes a → IsJobOf bytes b → a ≡ b

-- and one built text at most
abbrev pub BuiltOnce : Type 0
BuiltOnce = (bytes s t : List ℕ) → IsBuilt bytes s → IsBuilt bytes t → s ≡ t

-- what is built has no fault
abbrev pub BuiltHaveNoFault : Type 0
BuiltHaveNoFault = (bytes text : List ℕ) (fault : TextFault) → IsBuilt bytes text → ¬ HasFault bytes (Some fault)

-- the job of a document without a fault is one
abbrev pub BuiltAreJobs : Type 0
BuiltAreJobs = (bytes : List ℕ) (job : JobData) → HasFault bytes None → IsJobOf bytes job → IsJob job

-- each text has a fault, or is built
abbrev pub BuiltOrRefused : Type 0
BuiltOrRefused =
    (bytes : List ℕ) → ((fault : TextFault) × HasFault bytes (Some fault)) ⊎ ((text : List ℕ) × IsBuilt bytes text)

-- Jobs: what contracts see of a `Job`.
use Rattle.std.specs.Prelude.{ℕ, List}
use Rattle.za_dfa.specs.Partials.{PartialDfa, IsPartial}
use Rattle.za_script.specs.ScriptLists.{AreScripts, FitAlphabet}
use Rattle.za_lang.specs.Limits.{FitsDocuments}
use Rattle.za_lang.specs.Namings.{Naming, IsNaming}

-- the names of the processes, a language, and a script for each process
pub record JobData : Type 0 where
  pub naming : Naming
  pub lang : PartialDfa
  pub scripts : List (List ℕ)

-- what holds of each job: the limits, and its names and scripts fit its alphabet
pub record IsJob (job : JobData) : Type 0 where
  pub naming : IsNaming job.naming job.lang.alphabet.processes
  pub lang : IsPartial job.lang
  pub limits : FitsDocuments job.naming.version job.lang
  pub scripts : AreScripts job.scripts
  pub fit : FitAlphabet job.lang.alphabet job.scripts

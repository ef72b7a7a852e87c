-- What contracts see of a `Lang`: a partial table, the version of documents, and the names of processes.
use Rattle.std.specs.Prelude.{◌≡◌, ℕ, IsTrue, List, length, All}
use Rattle.za_text.specs.Names.{is_name}
use Rattle.za_text.specs.ProcessNames.{numbered, AreNames}
use Rattle.za_dfa.specs.Partials.{PartialDfa, IsPartial}
use Rattle.za_lang.specs.declared.version.Version.{Version}
use Rattle.za_lang.specs.declared.version.Version.TheVariants.{One, Two}
use Rattle.za_lang.specs.Limits.{FitsDocuments}

-- the version as a number
abbrev pub version_number : Version → ℕ
version_number One = 1
version_number Two = 2

-- the version, and the names of the processes in order
pub record Naming : Type 0 where
  pub version : Version
  pub names : List (List ℕ)

-- names as the version has them: in version 1 the number of each process, in version 2 names
abbrev pub AreNamesOf : Version → List (List ℕ) → Type 0
AreNamesOf One names = names ≡ numbered (length names)
AreNamesOf Two names = All (λ name. IsTrue (is_name name)) names

-- what holds of the naming of so many processes
pub record IsNaming (naming : Naming) (processes : ℕ) : Type 0 where
  pub size : length naming.names ≡ processes
  pub names : AreNames naming.names
  pub own : AreNamesOf naming.version naming.names

-- a language
pub record LangData : Type 0 where
  pub naming : Naming
  pub table : PartialDfa

-- what holds of each language
pub record IsLangData (lang : LangData) : Type 0 where
  pub whole : IsPartial lang.table
  pub limits : FitsDocuments lang.naming.version lang.table
  pub naming : IsNaming lang.naming lang.table.alphabet.processes

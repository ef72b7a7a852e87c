-- The limits of documents, by their version.
use Rattle.std.specs.Prelude.{ℕ, ◌≤◌, length}
use Rattle.za_dfa.specs.Partials.{PartialDfa}
use Rattle.za_lang.specs.declared.version.Version.{Version}
use Rattle.za_lang.specs.declared.version.Version.TheVariants.{One, Two}

-- the most processes
abbrev pub document_processes : Version → ℕ
document_processes One = 6
document_processes Two = 10

-- the most letters
abbrev pub document_letters : Version → ℕ
document_letters One = 32
document_letters Two = 128

-- the most states
abbrev pub document_states : Version → ℕ
document_states One = 32
document_states Two = 128

-- the language is within the limits
pub record FitsDocuments (version : Version) (lang : PartialDfa) : Type 0 where
  pub few_processes : lang.alphabet.processes ≤ document_processes version
  pub few_letters : length lang.alphabet.letters ≤ document_letters version
  pub few_states : lang.states ≤ document_states version

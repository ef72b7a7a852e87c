-- What the reader keeps up to the states line, and the job that it makes then.
use Rattle.std.specs.Prelude.{ℕ, ◌≤◌, [], length, replicate}
use Rattle.za_alpha.specs.Alphabet.{DistributedAlphabet}
use Rattle.za_dfa.specs.Partials.{blank}
use Rattle.za_lang.specs.declared.version.Version.{Version}
use Rattle.za_lang.specs.Limits.{document_processes, document_letters}
use Rattle.za_lang.specs.Jobs.{JobData}
use Rattle.za_lang.specs.Namings.{Naming, IsNaming}

-- the processes and letters so far are within the limits
pub record AreFew (version : Version) (alphabet : DistributedAlphabet) : Type 0 where
  pub processes : alphabet.processes ≤ document_processes version
  pub letters : length alphabet.letters ≤ document_letters version

-- and the processes have names
pub record AreNamedLetters (naming : Naming) (alphabet : DistributedAlphabet) : Type 0 where
  pub few : AreFew naming.version alphabet
  pub named : IsNaming naming alphabet.processes

-- the job over an alphabet with so many states that has neither rows nor accepting states nor script letters
abbrev pub blank_job : Naming → DistributedAlphabet → ℕ → JobData
blank_job naming alphabet states =
    record { naming = naming; lang = blank alphabet states; scripts = replicate alphabet.processes [] }

-- What contracts see of scripts: the list of the scripts of all processes, in the order of their numbers.
use Rattle.std.specs.Prelude.{◌≡◌, ℕ, ◌+◌, ◌<◌, ◌≤◌, ◌==◌, nat_lt, not, IsTrue, List}
use Rattle.std.specs.Prelude.{[], length, slice_index_or, All, Option, Some, None, if◌then◌else◌}
use Rattle.za_alpha.specs.Limits.{most_processes}
use Rattle.za_alpha.specs.declared.word.Letter.{Letter}
use Rattle.za_alpha.specs.Words.{has}
use Rattle.za_alpha.specs.Alphabet.{DistributedAlphabet, loc_of}
use Rattle.za_script.specs.declared.fault.ScriptFault.{ScriptFault}
use Rattle.za_script.specs.declared.fault.ScriptFault.TheVariants.{Foreign, Full}
use Rattle.za_script.specs.Limits.{most_script_letters}
use Rattle.za_script.specs.Scripts.{total}

-- the script of a process: empty where there is no such process
abbrev pub script_of : List (List ℕ) → ℕ → List ℕ
script_of scripts p = slice_index_or scripts p []

-- how many letters there are in all scripts together
abbrev pub total_of : List (List ℕ) → ℕ
total_of scripts = total (script_of scripts) (length scripts)

-- what holds of all scripts: the limits
pub record AreScripts (scripts : List (List ℕ)) : Type 0 where
  pub some_process : 0 < length scripts
  pub few_processes : length scripts ≤ most_processes
  pub few_letters : total_of scripts ≤ most_script_letters

-- a letter of the alphabet of which p is a process
pub record IsLetterOf (alphabet : DistributedAlphabet) (p a : ℕ) : Type 0 where
  pub letter : a < length alphabet.letters
  pub own : IsTrue (has (loc_of alphabet a) p)

-- the scripts fit the alphabet: there is one for each process, with letters of that process alone
pub record FitAlphabet (alphabet : DistributedAlphabet) (scripts : List (List ℕ)) : Type 0 where
  pub processes : length scripts ≡ alphabet.processes
  pub own : (p : ℕ) → p < length scripts → All (IsLetterOf alphabet p) (script_of scripts p)

-- why a letter can't be appended to the script of p, if it can't
abbrev pub add_fault : DistributedAlphabet → List (List ℕ) → ℕ → Letter → Option ScriptFault
add_fault alphabet scripts p a =
    if not (has (loc_of alphabet a.0) p) then Some (Foreign p a)
    else (if total_of scripts == most_script_letters then Some Full else None)

-- why a run of so many letters can't be appended to the script of p, if it can't
abbrev pub add_run_fault : DistributedAlphabet → List (List ℕ) → ℕ → Letter → ℕ → Option ScriptFault
add_run_fault alphabet scripts p a count =
    if not (has (loc_of alphabet a.0) p) then Some (Foreign p a)
    else (if nat_lt most_script_letters (total_of scripts + count) then Some Full else None)

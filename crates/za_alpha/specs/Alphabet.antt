-- What contracts see of an alphabet, and the alphabet that rows say.
use Rattle.std.specs.Prelude.{◌≡◌, ℕ, zero, suc, ◌<◌, ◌≤◌, ◌^◌, IsTrue, List, [], ◌∷◌, length, Option}
use Rattle.std.specs.List.{position_from}
use Rattle.std.specs.Str.{bytes_eq}
use Rattle.za_alpha.specs.declared.procs.Procs.{Procs}
use Rattle.za_alpha.specs.Limits.{most_processes, most_letters}
use Rattle.za_alpha.specs.Procs.{members, no_process}
use Rattle.za_alpha.specs.Words.{IsAlphabet}
use Rattle.za_names.specs.Names.{is_name}

-- a letter: its name, and its processes
pub record NamedLetter : Type 0 where
  pub name : List ℕ
  pub loc : Procs

-- a distributed alphabet: how many processes there are, and its letters in order
pub record DistributedAlphabet : Type 0 where
  pub processes : ℕ
  pub letters : List NamedLetter

-- the set of processes at a place: empty where there is no such letter
abbrev pub procs_at : List NamedLetter → ℕ → Procs
procs_at [] a = no_process
procs_at (l ∷ ls) zero = l.loc
procs_at (l ∷ ls) (suc a) = procs_at ls a

-- the processes of a letter
abbrev pub loc_of : DistributedAlphabet → ℕ → List ℕ
loc_of alphabet a = members (procs_at alphabet.letters a)

-- the name at a place: empty where there is no such letter
abbrev pub name_at : List NamedLetter → ℕ → List ℕ
name_at [] a = []
name_at (l ∷ ls) zero = l.name
name_at (l ∷ ls) (suc a) = name_at ls a

-- the place of the first letter that has the name
abbrev pub place_of : List NamedLetter → List ℕ → Option ℕ
place_of letters name = position_from (λ (l : NamedLetter). bytes_eq l.name name) 0 letters

-- what holds of each alphabet: the limits, names that are names and tell letters apart, and processes
pub record IsDistributed (alphabet : DistributedAlphabet) : Type 0 where
  pub some_process : 0 < alphabet.processes
  pub few_processes : alphabet.processes ≤ most_processes
  pub some_letter : 0 < length alphabet.letters
  pub few_letters : length alphabet.letters ≤ most_letters
  pub names : (a : ℕ) → a < length alphabet.letters → IsTrue (is_name (name_at alphabet.letters a))
  pub apart : (a b : ℕ) → a < length alphabet.letters → b < length alphabet.letters →
      name_at alphabet.letters a ≡ name_at alphabet.letters b → a ≡ b
  pub small : (a : ℕ) → a < length alphabet.letters → (procs_at alphabet.letters a).0 < 2 ^ 16
  pub located : IsAlphabet (loc_of alphabet) (length alphabet.letters) alphabet.processes

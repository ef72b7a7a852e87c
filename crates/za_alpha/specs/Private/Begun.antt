-- What holds of the fields of letters.
use Rattle.std.specs.Prelude.{◌≡◌, ℕ, ◌<◌, ◌≤◌, ◌^◌, IsTrue, List, length, map}
use Rattle.za_names.specs.Names.{is_name}
use Rattle.za_alpha.specs.declared.letters.Letters.TheInside.{Inside}
use Rattle.za_alpha.specs.declared.letters.Entry.{Entry}
use Rattle.za_alpha.specs.Limits.{most_processes, most_letters}
use Rattle.za_alpha.specs.Words.{IsAlphabet}
use Rattle.za_alpha.specs.Alphabet.{NamedLetter, DistributedAlphabet, name_at, procs_at, loc_of}
use Rattle.za_alpha.specs.Private.Index.{IsIndex}

-- names tell the letters apart
abbrev pub AreNamedApart : List NamedLetter → Type 0
AreNamedApart letters =
    (a b : ℕ) → a < length letters → b < length letters → name_at letters a ≡ name_at letters b → a ≡ b

-- what holds of an alphabet holds, but that there is a letter
pub record IsBegun (alphabet : DistributedAlphabet) : Type 0 where
  pub some_process : 0 < alphabet.processes
  pub few_processes : alphabet.processes ≤ most_processes
  pub few_letters : length alphabet.letters ≤ most_letters
  pub names : (a : ℕ) → a < length alphabet.letters → IsTrue (is_name (name_at alphabet.letters a))
  pub apart : AreNamedApart alphabet.letters
  pub small : (a : ℕ) → a < length alphabet.letters → (procs_at alphabet.letters a).0 < 2 ^ 16
  pub located : IsAlphabet (loc_of alphabet) (length alphabet.letters) alphabet.processes

-- an entry as a letter, wherever its name lies in memory
abbrev pub letter_of_entry : Entry → NamedLetter
letter_of_entry e = record { name = e.name.items; loc = e.loc }

abbrev pub letters_of : Inside → DistributedAlphabet
letters_of inside = record { processes = inside.processes; letters = map letter_of_entry inside.entries.items }

-- letters, and the index of their names
pub record AreBegun (inside : Inside) : Type 0 where
  pub begun : IsBegun (letters_of inside)
  pub indexed : IsIndex (letters_of inside).letters inside.index

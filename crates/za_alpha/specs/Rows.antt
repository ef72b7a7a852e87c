-- The rows that an alphabet is made of, and the first that is wrong.
use Rattle.std.specs.Prelude.{ℕ, ◌==◌, ◌&&◌, ◌++◌, not, nat_le, List, [], ◌∷◌, length}
use Rattle.std.specs.Prelude.{map, fold, Option, Some, None, if◌then◌else◌}
use Rattle.std.specs.List.{list_any}
use Rattle.std.specs.Str.{bytes_eq}
use Rattle.std.specs.Option.{option_or}
use Rattle.za_alpha.specs.declared.procs.Procs.{Procs}
use Rattle.za_alpha.specs.declared.alphabet.LetterRow.{LetterRow}
use Rattle.za_alpha.specs.declared.fault.AlphaFault.{AlphaFault}
use Rattle.za_alpha.specs.declared.fault.AlphaFault.TheVariants.{ProcessCount, LetterCount, BadName}
use Rattle.za_alpha.specs.declared.fault.AlphaFault.TheVariants.{RepeatedName, EmptyLoc, NoSuchProcess}
use Rattle.za_alpha.specs.Limits.{most_processes, most_letters}
use Rattle.za_alpha.specs.Procs.{no_process, with_process}
use Rattle.za_names.specs.Names.{is_name}
use Rattle.za_alpha.specs.Alphabet.{DistributedAlphabet, NamedLetter}

-- the set of these processes
abbrev pub set_of : List ℕ → Procs
set_of ps = fold with_process no_process ps

-- the letter that a row says
abbrev pub letter_of_row : LetterRow → NamedLetter
letter_of_row row = record { name = row.name.items; loc = set_of row.procs.items }

-- the alphabet that rows say
abbrev pub alphabet_of_rows : ℕ → List LetterRow → DistributedAlphabet
alphabet_of_rows processes rows = record { processes = processes; letters = map letter_of_row rows }

-- the fault of a row after the rows before it: the first of its tests that fails
unfoldable pub letter_fault : ℕ → List LetterRow → LetterRow → Option AlphaFault
letter_fault processes before row =
    let at = length before in
    if not (is_name row.name.items) then Some (BadName at)
    else (if list_any (λ (earlier : LetterRow). bytes_eq earlier.name.items row.name.items) before
    then Some (RepeatedName at)
    else (if length row.procs.items == 0 then Some (EmptyLoc at)
    else (if list_any (λ p. nat_le processes p) row.procs.items then Some (NoSuchProcess at) else None)))

-- the fault of the first wrong row
abbrev pub letters_fault : ℕ → List LetterRow → List LetterRow → Option AlphaFault
letters_fault processes before [] = None
letters_fault processes before (row ∷ rows) =
    option_or (letter_fault processes before row) (letters_fault processes (before ++ row ∷ []) rows)

-- the first fault, if there is one
abbrev pub alphabet_fault : ℕ → List LetterRow → Option AlphaFault
alphabet_fault processes rows =
    if not (nat_le 1 processes && nat_le processes most_processes) then Some ProcessCount
    else (if not (nat_le 1 (length rows) && nat_le (length rows) most_letters) then Some LetterCount
    else letters_fault processes [] rows)

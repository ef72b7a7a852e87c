-- The own tests of the lines of a document of a version, each by the words after the line's first: its
-- fault, where a test fails, and then that of the first that does.
use Rattle.std.specs.Prelude.{ℕ, ◌+◌, ◌++◌, ◌&&◌, ◌||◌, not, nat_le, nat_lt, List, [], ◌∷◌}
use Rattle.std.specs.Prelude.{length, codes, Option, Some, None, if◌then◌else◌, is_some, unwrap_or}
use Rattle.std.specs.Option.{option_or, option_map}
use Rattle.std.specs.Str.{bytes_eq}
use Rattle.za_text.specs.Names.{is_name}
use Rattle.za_text.specs.Numbers.{numeral_value}
use Rattle.za_text.specs.ProcessNames.{process_named}
use Rattle.za_text.specs.declared.kind.Kind.{Kind}
use Rattle.za_text.specs.declared.kind.Kind.TheVariants.{Header, WordCount, BadNumber, BadName}
use Rattle.za_text.specs.declared.kind.Kind.TheVariants.{ProcessCount, LetterCount, RepeatedName, EmptyLoc}
use Rattle.za_text.specs.declared.kind.Kind.TheVariants.{NoSuchProcess, StateCount, NoSuchState, TwoTargets}
use Rattle.za_text.specs.declared.kind.Kind.TheVariants.{NoSuchLetter, NotOfProcess, ScriptsFull}
use Rattle.za_text.specs.declared.kind.Kind.TheVariants.{WideProcesses, RepeatedProcess, WideLetters, WideStates}
use Rattle.za_text.specs.declared.kind.Kind.TheVariants.{BadRepeat}
use Rattle.za_alpha.specs.declared.fault.NameFault.{NameFault}
use Rattle.za_alpha.specs.declared.fault.NameFault.TheVariants.{Bad, Repeated}
use Rattle.za_alpha.specs.Words.{has}
use Rattle.za_alpha.specs.Procs.{members}
use Rattle.za_alpha.specs.Alphabet.{NamedLetter, procs_at, place_of}
use Rattle.za_alpha.specs.NewNames.{name_fault}
use Rattle.za_dfa.specs.declared.rows.Row.{Row}
use Rattle.za_dfa.specs.Rows.{has_other}
use Rattle.za_script.specs.Limits.{most_script_letters}
use Rattle.za_lang.specs.declared.version.Version.{Version}
use Rattle.za_lang.specs.declared.version.Version.TheVariants.{One, Two}
use Rattle.za_lang.specs.Items.{Item, item_of}
use Rattle.za_lang.specs.Limits.{document_processes, document_letters, document_states}
use Rattle.za_lang.specs.Namings.{Naming}

-- the version is 1 or 2
abbrev pub header_line_fault : List (List ℕ) → Option Kind
header_line_fault (word ∷ []) =
    if bytes_eq word (codes "1") || bytes_eq word (codes "2") then None else Some Header
header_line_fault _ = Some Header

-- version 1: how many processes there are
abbrev pub processes_fault : Option ℕ → Option Kind
processes_fault None = Some BadNumber
processes_fault (Some n) = if nat_le 1 n && nat_le n (document_processes One) then None else Some ProcessCount

abbrev pub process_count_fault : List (List ℕ) → Option Kind
process_count_fault (word ∷ []) = processes_fault (numeral_value word)
process_count_fault _ = Some WordCount

-- version 2: the names of the processes, each after those before it
abbrev pub process_name_fault : List (List ℕ) → List ℕ → Option Kind
process_name_fault names word =
    if not (is_name word) then Some BadName
    else (if is_some (process_named names word) then Some RepeatedProcess else None)

abbrev pub process_names_fault : List (List ℕ) → List (List ℕ) → Option Kind
process_names_fault names [] = None
process_names_fault names (word ∷ words) =
    option_or (process_name_fault names word) (process_names_fault (names ++ word ∷ []) words)

abbrev pub some_names_fault : List (List ℕ) → Option Kind
some_names_fault [] = Some WordCount
some_names_fault (word ∷ words) =
    if nat_lt (document_processes Two) (length (word ∷ words)) then Some WideProcesses
    else process_names_fault [] (word ∷ words)

abbrev pub processes_line_fault : Version → List (List ℕ) → Option Kind
processes_line_fault One words = process_count_fault words
processes_line_fault Two words = some_names_fault words

-- the process that a word means: in version 1 by its number, in version 2 by its name
abbrev pub process_meant : Version → List (List ℕ) → List ℕ → Option ℕ
process_meant One names word = numeral_value word
process_meant Two names word = process_named names word

abbrev pub process_at : Naming → List ℕ → Option ℕ
process_at naming word = process_meant naming.version naming.names word

-- a process, by its number
abbrev pub process_number_fault : ℕ → Option ℕ → Option Kind
process_number_fault processes None = Some BadNumber
process_number_fault processes (Some p) = if nat_lt p processes then None else Some NoSuchProcess

-- a process, by its name
abbrev pub process_found_fault : Option ℕ → Option Kind
process_found_fault None = Some NoSuchProcess
process_found_fault (Some p) = None

abbrev pub process_wrong : Version → List (List ℕ) → List ℕ → Option Kind
process_wrong One names word = process_number_fault (length names) (numeral_value word)
process_wrong Two names word = process_found_fault (process_named names word)

abbrev pub process_fault : Naming → List ℕ → Option Kind
process_fault naming word = process_wrong naming.version naming.names word

-- the processes of a letter
abbrev pub loc_fault : Naming → List (List ℕ) → Option Kind
loc_fault naming [] = None
loc_fault naming (word ∷ words) = option_or (process_fault naming word) (loc_fault naming words)

abbrev pub some_loc_fault : Naming → List (List ℕ) → Option Kind
some_loc_fault naming [] = Some EmptyLoc
some_loc_fault naming (word ∷ words) = loc_fault naming (word ∷ words)

-- what is wrong with a name, as a kind
abbrev pub kind_of_name : NameFault → Kind
kind_of_name Bad = BadName
kind_of_name Repeated = RepeatedName

-- too many letters
abbrev pub many_letters : Version → Kind
many_letters One = LetterCount
many_letters Two = WideLetters

-- a letter after the letters before it
abbrev pub new_letter_fault : Naming → List NamedLetter → List ℕ → List (List ℕ) → Option Kind
new_letter_fault naming letters name words =
    if nat_le (document_letters naming.version) (length letters) then Some (many_letters naming.version)
    else option_or (option_map kind_of_name (name_fault letters name)) (some_loc_fault naming words)

abbrev pub letter_line_fault : Naming → List NamedLetter → List (List ℕ) → Option Kind
letter_line_fault naming letters [] = Some WordCount
letter_line_fault naming letters (name ∷ words) = new_letter_fault naming letters name words

-- no states, or too many
abbrev pub wrong_states : Version → Kind
wrong_states One = StateCount
wrong_states Two = WideStates

abbrev pub states_fault : Version → Option ℕ → Option Kind
states_fault version None = Some BadNumber
states_fault version (Some n) =
    if nat_le 1 n && nat_le n (document_states version) then None else Some (wrong_states version)

abbrev pub states_line_fault : Version → List (List ℕ) → Option Kind
states_line_fault version (word ∷ []) = states_fault version (numeral_value word)
states_line_fault version _ = Some WordCount

-- a state, by its number
abbrev pub state_fault : ℕ → Option ℕ → Option Kind
state_fault states None = Some BadNumber
state_fault states (Some q) = if nat_lt q states then None else Some NoSuchState

abbrev pub start_line_fault : ℕ → List (List ℕ) → Option Kind
start_line_fault states (word ∷ []) = state_fault states (numeral_value word)
start_line_fault states _ = Some WordCount

abbrev pub accept_line_fault : ℕ → List (List ℕ) → Option Kind
accept_line_fault states [] = None
accept_line_fault states (word ∷ words) =
    option_or (state_fault states (numeral_value word)) (accept_line_fault states words)

abbrev pub named_fault : Option ℕ → Option Kind
named_fault None = Some NoSuchLetter
named_fault (Some a) = None

-- a row after the rows before it
abbrev pub targets_fault : List Row → Option ℕ → Option ℕ → Option ℕ → Option Kind
targets_fault rows (Some q) (Some a) (Some r) = if has_other rows q a r then Some TwoTargets else None
targets_fault rows _ _ _ = None

unfoldable pub new_row_fault : ℕ → List NamedLetter → List Row → List ℕ → List ℕ → List ℕ → Option Kind
new_row_fault states letters rows from name to =
    option_or (state_fault states (numeral_value from))
    (option_or (named_fault (place_of letters name))
    (option_or (state_fault states (numeral_value to))
    (targets_fault rows (numeral_value from) (place_of letters name) (numeral_value to))))

abbrev pub row_line_fault : ℕ → List NamedLetter → List Row → List (List ℕ) → Option Kind
row_line_fault states letters rows (from ∷ name ∷ to ∷ []) = new_row_fault states letters rows from name to
row_line_fault states letters rows _ = Some WordCount

-- a run of letters, where so many script letters were read before it
abbrev pub run_fault : ℕ → Option ℕ → Option Kind
run_fault read None = Some BadRepeat
run_fault read (Some count) = if nat_lt most_script_letters (read + count) then Some ScriptsFull else None

-- a run of the letter at a place, in the script of a process
abbrev pub step_fault : List NamedLetter → ℕ → ℕ → Option ℕ → Option ℕ → Option Kind
step_fault letters process read None count = Some NoSuchLetter
step_fault letters process read (Some a) count =
    if not (has (members (procs_at letters a)) process) then Some NotOfProcess else run_fault read count

abbrev pub item_fault : List NamedLetter → ℕ → ℕ → Item → Option Kind
item_fault letters process read item = step_fault letters process read (place_of letters item.name) item.count

abbrev pub items_fault : Version → List NamedLetter → ℕ → ℕ → List (List ℕ) → Option Kind
items_fault version letters process read [] = None
items_fault version letters process read (word ∷ words) =
    let item = item_of version word in
    option_or (item_fault letters process read item)
    (items_fault version letters process (read + unwrap_or item.count 0) words)

-- the items of the script of a process, where there is such a process
abbrev pub script_items_fault : Version → List NamedLetter → ℕ → Option ℕ → List (List ℕ) → Option Kind
script_items_fault version letters read None words = None
script_items_fault version letters read (Some p) words = items_fault version letters p read words

abbrev pub script_line_fault : Naming → List NamedLetter → ℕ → List (List ℕ) → Option Kind
script_line_fault naming letters read [] = Some WordCount
script_line_fault naming letters read (word ∷ words) =
    option_or (process_fault naming word)
    (script_items_fault naming.version letters read (process_at naming word) words)

abbrev pub end_line_fault : List (List ℕ) → Option Kind
end_line_fault [] = None
end_line_fault _ = Some WordCount

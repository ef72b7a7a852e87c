-- The printed form of a job.
use Rattle.std.specs.Prelude.{ℕ, ◌+◌, ◌*◌, ◌/◌, ◌%◌, ◌==◌, List, [], ◌∷◌, ◌++◌, length, map, filter, codes, decimal}
use Rattle.std.specs.Prelude.{slice_index_or, Option, None, if◌then◌else◌}
use Rattle.std.specs.List.{filter_map, range_with_len}
use Rattle.std.specs.Option.{option_map}
use Rattle.za_alpha.specs.Procs.{members}
use Rattle.za_alpha.specs.Alphabet.{NamedLetter, DistributedAlphabet, name_at}
use Rattle.za_dfa.specs.declared.rows.Row.{Row}
use Rattle.za_dfa.specs.Partials.{PartialDfa, is_accepting}
use Rattle.za_script.specs.ScriptLists.{script_of}
use Rattle.za_text.specs.Printed.{text_of, number_line}
use Rattle.za_text.specs.ProcessNames.{name_of}
use Rattle.za_lang.specs.declared.version.Version.{Version}
use Rattle.za_lang.specs.declared.version.Version.TheVariants.{One, Two}
use Rattle.za_lang.specs.Jobs.{JobData}
use Rattle.za_lang.specs.Namings.{Naming}

-- the word of a version in the header
abbrev pub version_word : Version → List ℕ
version_word One = codes "1"
version_word Two = codes "2"

-- the processes: in version 1 how many there are, in version 2 their names
abbrev pub processes_words : Version → List (List ℕ) → List (List ℕ)
processes_words One names = decimal (length names) ∷ []
processes_words Two names = names

abbrev pub processes_line : Naming → List (List ℕ)
processes_line naming = codes "processes" ∷ processes_words naming.version naming.names

-- a letter with its processes in rising order
abbrev pub letter_line : List (List ℕ) → NamedLetter → List (List ℕ)
letter_line names letter = codes "letter" ∷ letter.name ∷ map (name_of names) (members letter.loc)

-- the accepting states in rising order
abbrev pub accepting_states : PartialDfa → List ℕ
accepting_states lang = filter (is_accepting lang) (range_with_len 0 lang.states)

abbrev pub accept_line : PartialDfa → List (List ℕ)
accept_line lang = codes "accept" ∷ map decimal (accepting_states lang)

-- where a letter leads from a state
abbrev pub row_line : List NamedLetter → Row → List (List ℕ)
row_line letters row =
    codes "row" ∷ decimal row.from ∷ name_at letters row.letter.0 ∷ decimal row.to ∷ []

-- the row of cell i of the table, if it has a target: where there are m letters, that of state i / m and letter i % m
abbrev pub row_of_cell : PartialDfa → ℕ → Option Row
row_of_cell lang i =
    let letters = length lang.alphabet.letters in
    let row_to : ℕ → Row = λ to. record { from = i / letters; letter = record { 0 = i % letters }; to = to } in
    option_map row_to (slice_index_or lang.targets i None)

-- the rows that the table has, by state and then by letter
abbrev pub table_rows : PartialDfa → List Row
table_rows lang = filter_map (row_of_cell lang) (range_with_len 0 (lang.states * length lang.alphabet.letters))

abbrev pub row_lines : PartialDfa → List (List (List ℕ))
row_lines lang = map (row_line lang.alphabet.letters) (table_rows lang)

-- a letter, and how often it stands one after the other
pub record Run : Type 0 where
  pub letter : ℕ
  pub count : ℕ

-- the runs of a letter and of the letters after it
abbrev pub put_run : ℕ → List Run → List Run
put_run a [] = record { letter = a; count = 1 } ∷ []
put_run a (run ∷ runs) =
    if run.letter == a then record { letter = a; count = run.count + 1 } ∷ runs
    else record { letter = a; count = 1 } ∷ run ∷ runs

-- the maximal runs of one letter
abbrev pub runs : List ℕ → List Run
runs [] = []
runs (a ∷ w) = put_run a (runs w)

-- the items of a script: in version 1 letters, in version 2 maximal runs
abbrev pub script_runs : Version → List ℕ → List Run
script_runs One script = map (λ (a : ℕ). record { letter = a; count = 1 }) script
script_runs Two script = runs script

-- the letter's name, and after a `*` how often it stands there, where that is more than once
abbrev pub item_word : List NamedLetter → Run → List ℕ
item_word letters run =
    if run.count == 1 then name_at letters run.letter
    else name_at letters run.letter ++ 42 ∷ decimal run.count

abbrev pub script_line : Naming → List NamedLetter → List (List ℕ) → ℕ → List (List ℕ)
script_line naming letters scripts p =
    codes "script" ∷ name_of naming.names p ∷
    map (item_word letters) (script_runs naming.version (script_of scripts p))

-- one line for each process, also where its script is empty
abbrev pub script_lines : Naming → DistributedAlphabet → List (List ℕ) → List (List (List ℕ))
script_lines naming alphabet scripts =
    map (script_line naming alphabet.letters scripts) (range_with_len 0 alphabet.processes)

-- the lines of a job
abbrev pub job_lines : JobData → List (List (List ℕ))
job_lines job =
    (codes "zla" ∷ version_word job.naming.version ∷ [])
    ∷ processes_line job.naming
    ∷ (map (letter_line job.naming.names) job.lang.alphabet.letters
    ++ (number_line (codes "states") job.lang.states
    ∷ number_line (codes "start") job.lang.start
    ∷ accept_line job.lang
    ∷ (row_lines job.lang
    ++ (script_lines job.naming job.lang.alphabet job.scripts
    ++ (codes "end" ∷ []) ∷ []))))

-- the printed form of a job
abbrev pub printed : JobData → List ℕ
printed job = text_of (job_lines job)

-- Documents: what their lines say, the first wrong line, and the job that is gathered from the lines.
use Rattle.std.specs.Prelude.{ℕ, ◌+◌, ◌==◌, ◌++◌, not, Bool, false, List, [], ◌∷◌, length, map, codes}
use Rattle.std.specs.Prelude.{filter, Option, Some, None, if◌then◌else◌, fold, unwrap_or}
use Rattle.std.specs.List.{list_all, flat_map, filter_map, range_with_len}
use Rattle.std.specs.Option.{option_or, option_map}
use Rattle.std.specs.Str.{bytes_eq}
use Rattle.za_text.specs.Lines.{RawLine, lines_of, is_allowed}
use Rattle.za_text.specs.Words.{words_of}
use Rattle.za_text.specs.Numbers.{numeral_value}
use Rattle.za_text.specs.ProcessNames.{numbered}
use Rattle.za_text.specs.declared.kind.Kind.{Kind}
use Rattle.za_text.specs.declared.kind.Kind.TheVariants.{Cut, BadByte, OutOfOrder, NoEnd}
use Rattle.za_text.specs.declared.kind.TextFault.{TextFault}
use Rattle.za_alpha.specs.Words.{has}
use Rattle.za_alpha.specs.Rows.{set_of}
use Rattle.za_alpha.specs.Alphabet.{NamedLetter, place_of}
use Rattle.za_dfa.specs.declared.rows.Row as declared_row
use Rattle.za_dfa.specs.Partials.{PartialDfa}
use Rattle.za_dfa.specs.Rows.{cells_of}
use Rattle.za_lang.specs.declared.order.Head.{Head}
use Rattle.za_lang.specs.declared.order.Head.TheVariants.{Zla, Processes, Letter, States, Start}
use Rattle.za_lang.specs.declared.order.Head.TheVariants.{Accept, Row, Script, End, Other}
use Rattle.za_lang.specs.declared.order.Place.{Place}
use Rattle.za_lang.specs.declared.order.Place.TheVariants.{AtHeader, AfterEnd}
use Rattle.za_lang.specs.declared.version.Version.{Version}
use Rattle.za_lang.specs.declared.version.Version.TheVariants.{One, Two}
use Rattle.za_lang.specs.Items.{letters_of_items}
use Rattle.za_lang.specs.Jobs.{JobData}
use Rattle.za_lang.specs.Namings.{Naming}
use Rattle.za_lang.specs.Order.{head_of, next_place, order_fault}
use Rattle.za_lang.specs.Tests.{header_line_fault, processes_line_fault, letter_line_fault, states_line_fault}
use Rattle.za_lang.specs.Tests.{start_line_fault, accept_line_fault, row_line_fault, script_line_fault, end_line_fault}
use Rattle.za_lang.specs.Tests.{process_at}

-- The version, and the words of a line in that version.

-- the version that a line says, by its first word and the words after it
abbrev pub version_said : Head → List (List ℕ) → Version
version_said Zla (word ∷ []) = if bytes_eq word (codes "2") then Two else One
version_said _ _ = One

-- the version that a line says, and where it has no words that of the lines after it
abbrev pub version_by : Version → List (List ℕ) → Version
version_by later [] = later
version_by later (word ∷ words) = version_said (head_of word) words

-- the version of a text: 2 if its first line with words is `zla 2`, and else 1
abbrev pub version_of : List RawLine → Version
version_of [] = One
version_of (line ∷ lines) = version_by (version_of lines) (words_of line.text)

-- whether a first word begins a comment, which only version 2 has: with a `#`
abbrev pub begins_comment : Version → List ℕ → Bool
begins_comment One word = false
begins_comment Two [] = false
begins_comment Two (b ∷ bs) = b == 35

-- the words but for those of a comment
abbrev pub but_comments : Version → List (List ℕ) → List (List ℕ)
but_comments version [] = []
but_comments version (word ∷ words) = if begins_comment version word then [] else word ∷ words

abbrev pub words_in : Version → RawLine → List (List ℕ)
words_in version line = but_comments version (words_of line.text)

-- What lines say: each notion by the words of the lines, be they right or wrong.

-- the place after a line: that of its first word, if it has one
abbrev pub place_by : Place → List (List ℕ) → Place
place_by place [] = place
place_by place (word ∷ words) = next_place place (head_of word)

-- the place that lines lead to
abbrev pub place_after : Version → List RawLine → Place
place_after version lines = fold (λ place line. place_by place (words_in version line)) AtHeader lines

-- the number that words begin with
abbrev pub first_number : List (List ℕ) → Option ℕ
first_number [] = None
first_number (word ∷ words) = numeral_value word

-- the names of the processes by the words of a processes line
abbrev pub names_of : Version → List (List ℕ) → List (List ℕ)
names_of One words = numbered (unwrap_or (first_number words) 0)
names_of Two words = words

-- the names that a line says, and else those said before
abbrev pub names_said : Version → List (List ℕ) → Head → List (List ℕ) → List (List ℕ)
names_said version names Processes words = names_of version words
names_said version names _ _ = names

abbrev pub names_by : Version → List (List ℕ) → List (List ℕ) → List (List ℕ)
names_by version names [] = names
names_by version names (word ∷ words) = names_said version names (head_of word) words

abbrev pub names_in : Version → List RawLine → List (List ℕ)
names_in version lines = fold (λ names line. names_by version names (words_in version line)) [] lines

abbrev pub naming_in : Version → List RawLine → Naming
naming_in version lines = record { version = version; names = names_in version lines }

-- a letter: its name, and the set of the processes that are meant
abbrev pub letter_of : Naming → List ℕ → List (List ℕ) → NamedLetter
letter_of naming name processes =
    record { name = name; loc = set_of (filter_map (process_at naming) processes) }

-- the letter that a line says over these processes
abbrev pub letters_said : Naming → Head → List (List ℕ) → List NamedLetter
letters_said naming Letter (name ∷ processes) = letter_of naming name processes ∷ []
letters_said naming _ _ = []

abbrev pub letters_by : Naming → List (List ℕ) → List NamedLetter
letters_by naming [] = []
letters_by naming (word ∷ words) = letters_said naming (head_of word) words

-- the letters of lines that come after others, each over the processes before it
abbrev pub letters_from : Version → List RawLine → List RawLine → List NamedLetter
letters_from version before [] = []
letters_from version before (line ∷ lines) =
    letters_by (naming_in version before) (words_in version line) ++ letters_from version (before ++ line ∷ []) lines

-- the letters of all letter lines, in order
abbrev pub letters_in : Version → List RawLine → List NamedLetter
letters_in version lines = letters_from version [] lines

-- the number of states that a line says, and else that said before
abbrev pub states_said : ℕ → Head → List (List ℕ) → ℕ
states_said n States words = unwrap_or (first_number words) n
states_said n _ _ = n

abbrev pub states_by : ℕ → List (List ℕ) → ℕ
states_by n [] = n
states_by n (word ∷ words) = states_said n (head_of word) words

abbrev pub states_in : Version → List RawLine → ℕ
states_in version lines = fold (λ n line. states_by n (words_in version line)) 0 lines

-- the start state that a line says, and else that said before
abbrev pub start_said : ℕ → Head → List (List ℕ) → ℕ
start_said q Start words = unwrap_or (first_number words) q
start_said q _ _ = q

abbrev pub start_by : ℕ → List (List ℕ) → ℕ
start_by q [] = q
start_by q (word ∷ words) = start_said q (head_of word) words

abbrev pub start_in : Version → List RawLine → ℕ
start_in version lines = fold (λ q line. start_by q (words_in version line)) 0 lines

-- the accepting states that a line says
abbrev pub accepts_said : Head → List (List ℕ) → List ℕ
accepts_said Accept words = filter_map numeral_value words
accepts_said _ _ = []

abbrev pub accepts_by : List (List ℕ) → List ℕ
accepts_by [] = []
accepts_by (word ∷ words) = accepts_said (head_of word) words

-- the states of all accept lines
abbrev pub accepts_in : Version → List RawLine → List ℕ
accepts_in version lines = flat_map (λ line. accepts_by (words_in version line)) lines

-- the row of a state, a letter and a state, where they are there
abbrev pub row_of : Option ℕ → Option ℕ → Option ℕ → List declared_row.Row
row_of (Some q) (Some a) (Some r) = record { from = q; letter = record { 0 = a }; to = r } ∷ []
row_of _ _ _ = []

-- the row that a line says over these letters
abbrev pub rows_said : List NamedLetter → Head → List (List ℕ) → List declared_row.Row
rows_said letters Row (from ∷ name ∷ to ∷ words) =
    row_of (numeral_value from) (place_of letters name) (numeral_value to)
rows_said letters _ _ = []

abbrev pub rows_by : List NamedLetter → List (List ℕ) → List declared_row.Row
rows_by letters [] = []
rows_by letters (word ∷ words) = rows_said letters (head_of word) words

-- the rows of lines that come after others, each over the letters before it
abbrev pub rows_from : Version → List RawLine → List RawLine → List declared_row.Row
rows_from version before [] = []
rows_from version before (line ∷ lines) =
    rows_by (letters_in version before) (words_in version line) ++ rows_from version (before ++ line ∷ []) lines

-- the rows of all row lines
abbrev pub table_rows_in : Version → List RawLine → List declared_row.Row
table_rows_in version lines = rows_from version [] lines

-- a letter of a script: the process, and the letter's number
pub record Step : Type 0 where
  pub process : ℕ
  pub letter : ℕ

abbrev pub steps_of : Version → List NamedLetter → Option ℕ → List (List ℕ) → List Step
steps_of version letters None words = []
steps_of version letters (Some process) words =
    map (λ (a : ℕ). record { process = process; letter = a }) (letters_of_items version letters words)

-- the letters that a script line says, over these processes and letters
abbrev pub steps_said : Naming → List NamedLetter → Head → List (List ℕ) → List Step
steps_said naming letters Script (word ∷ words) = steps_of naming.version letters (process_at naming word) words
steps_said naming letters _ _ = []

abbrev pub steps_by : Naming → List NamedLetter → List (List ℕ) → List Step
steps_by naming letters [] = []
steps_by naming letters (word ∷ words) = steps_said naming letters (head_of word) words

-- the script letters of lines that come after others, each over the processes and letters before it
abbrev pub steps_from : Version → List RawLine → List RawLine → List Step
steps_from version before [] = []
steps_from version before (line ∷ lines) =
    steps_by (naming_in version before) (letters_in version before) (words_in version line) ++
    steps_from version (before ++ line ∷ []) lines

-- the letters of all script lines, in order
abbrev pub steps_in : Version → List RawLine → List Step
steps_in version lines = steps_from version [] lines

-- all that lines say
pub record Said : Type 0 where
  pub place : Place
  pub naming : Naming
  pub letters : List NamedLetter
  pub states : ℕ
  pub start : ℕ
  pub accepts : List ℕ
  pub rows : List declared_row.Row
  pub steps : List Step

-- all that lines say as lines of a version
unfoldable pub said : Version → List RawLine → Said
said version lines = record {
  place = place_after version lines;
  naming = naming_in version lines;
  letters = letters_in version lines;
  states = states_in version lines;
  start = start_in version lines;
  accepts = accepts_in version lines;
  rows = table_rows_in version lines;
  steps = steps_in version lines;
}

-- The tests of a line, after lines that say this.

-- the own tests of a line, by the words after its first
abbrev pub own_fault : Said → Head → List (List ℕ) → Option Kind
own_fault s Zla words = header_line_fault words
own_fault s Processes words = processes_line_fault s.naming.version words
own_fault s Letter words = letter_line_fault s.naming s.letters words
own_fault s States words = states_line_fault s.naming.version words
own_fault s Start words = start_line_fault s.states words
own_fault s Accept words = accept_line_fault s.states words
own_fault s Row words = row_line_fault s.states s.letters s.rows words
own_fault s Script words = script_line_fault s.naming s.letters (length s.steps) words
own_fault s End words = end_line_fault words
own_fault s Other words = Some OutOfOrder

abbrev pub words_fault : Said → List (List ℕ) → Option Kind
words_fault s [] = None
words_fault s (word ∷ words) = option_or (order_fault s.place (head_of word)) (own_fault s (head_of word) words)

-- the first test of a line that fails
unfoldable pub line_fault : Said → RawLine → Option Kind
line_fault s line =
    if not line.whole then Some Cut
    else (if not (list_all is_allowed line.text) then Some BadByte
    else words_fault s (words_in s.naming.version line))

-- The refusal.

-- of the line after so many
abbrev pub next_fault : ℕ → Kind → TextFault
next_fault n kind = record { line = n + 1; kind = kind }

-- at the end of the text, after so many lines
abbrev pub end_fault : Place → ℕ → Option TextFault
end_fault AfterEnd n = None
end_fault _ n = Some (next_fault n NoEnd)

-- the first wrong line of those that come after others
abbrev pub faults_from : Version → List RawLine → List RawLine → Option TextFault
faults_from version before [] = end_fault (said version before).place (length before)
faults_from version before (line ∷ lines) =
    let here = option_map (next_fault (length before)) (line_fault (said version before) line) in
    option_or here (faults_from version (before ++ line ∷ []) lines)

-- the refusal of a text: its first wrong line with the kind of its first test that fails, or the missing
-- end, and none where the text is a job
abbrev pub fault_of : List ℕ → Option TextFault
fault_of bytes = faults_from (version_of (lines_of bytes)) [] (lines_of bytes)

-- The job.

-- of each of so many states, whether it is among these
abbrev pub acceptance_of : ℕ → List ℕ → List Bool
acceptance_of states accepts = map (has accepts) (range_with_len 0 states)

-- the joined letters of the script lines of a process
abbrev pub script_of_steps : List Step → ℕ → List ℕ
script_of_steps steps process =
    map (λ (step : Step). step.letter) (filter (λ (step : Step). step.process == process) steps)

-- the language that lines say
abbrev pub lang_said : Said → PartialDfa
lang_said s = record {
  alphabet = record { processes = length s.naming.names; letters = s.letters };
  states = s.states;
  start = s.start;
  accepting = acceptance_of s.states s.accepts;
  targets = cells_of s.states (length s.letters) s.rows;
}

abbrev pub scripts_said : Said → List (List ℕ)
scripts_said s = map (script_of_steps s.steps) (range_with_len 0 (length s.naming.names))

abbrev pub job_said : Said → JobData
job_said s = record { naming = s.naming; lang = lang_said s; scripts = scripts_said s }

-- the job gathered from the lines of a text that isn't refused
abbrev pub job_of : List ℕ → JobData
job_of bytes = job_said (said (version_of (lines_of bytes)) (lines_of bytes))

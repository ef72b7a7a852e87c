-- Readings after a job: what their lines say, and the first wrong line. Lines are read by the job's version and by
-- the names of its processes.
use Rattle.std.specs.Prelude.{ℕ, ◌+◌, ◌==◌, not, List, [], ◌∷◌, length, map, codes}
use Rattle.std.specs.Prelude.{Option, Some, None, if◌then◌else◌}
use Rattle.std.specs.List.{list_all, flat_map, filter_map, range_with_len}
use Rattle.std.specs.Option.{option_or, option_map}
use Rattle.std.specs.Str.{bytes_eq}
use Rattle.za_text.specs.Lines.{RawLine, is_allowed}
use Rattle.za_text.specs.Numbers.{numeral_value}
use Rattle.za_text.specs.ProcessNames.{process_named}
use Rattle.za_text.specs.declared.kind.Kind.{Kind}
use Rattle.za_text.specs.declared.kind.Kind.TheVariants.{Cut, BadByte, OutOfOrder, WordCount, NoEnd}
use Rattle.za_text.specs.declared.kind.Kind.TheVariants.{Trailing, BadNumber}
use Rattle.za_text.specs.declared.kind.TextFault.{TextFault}
use Rattle.za_lang.specs.declared.version.Version.{Version}
use Rattle.za_lang.specs.Documents.{words_in, next_fault}
use Rattle.za_lang.specs.Tests.{process_found_fault, end_line_fault}
use Rattle.za_news.specs.declared.order.Head.{Head}
use Rattle.za_news.specs.declared.order.Head.TheVariants.{Read, End, Other}
use Rattle.za_news.specs.declared.order.Place.{Place}
use Rattle.za_news.specs.declared.order.Place.TheVariants.{AtReadings, AfterEnd}

-- what a first word says
abbrev pub reading_head : List ℕ → Head
reading_head word =
    if bytes_eq word (codes "read") then Read
    else (if bytes_eq word (codes "end") then End else Other)

-- the place after a line with this first word
abbrev pub next_reading_place : Place → Head → Place
next_reading_place place End = AfterEnd
next_reading_place place _ = place

-- the place after the words of a line
abbrev pub reading_place_by : Place → List (List ℕ) → Place
reading_place_by place [] = place
reading_place_by place (word ∷ words) = next_reading_place place (reading_head word)

-- What lines say.

-- the numbers, if they are of the process q
abbrev pub numbers_for : ℕ → Option ℕ → List ℕ → List ℕ
numbers_for q None numbers = []
numbers_for q (Some p) numbers = if q == p then numbers else []

-- the numbers that a line says for the process q
abbrev pub numbers_said : List (List ℕ) → ℕ → Head → List (List ℕ) → List ℕ
numbers_said names q Read (word ∷ words) = numbers_for q (process_named names word) (filter_map numeral_value words)
numbers_said names q _ _ = []

abbrev pub numbers_by : List (List ℕ) → ℕ → List (List ℕ) → List ℕ
numbers_by names q [] = []
numbers_by names q (word ∷ words) = numbers_said names q (reading_head word) words

-- the numbers that lines say for the process q, in order
abbrev pub numbers_in : Version → List (List ℕ) → List RawLine → ℕ → List ℕ
numbers_in version names lines q = flat_map (λ line. numbers_by names q (words_in version line)) lines

-- the readings that lines say: for each process its numbers
abbrev pub readings_said : Version → List (List ℕ) → List RawLine → List (List ℕ)
readings_said version names lines = map (numbers_in version names lines) (range_with_len 0 (length names))

-- The tests of a line.

abbrev pub word_fault : Option ℕ → Option Kind
word_fault None = Some BadNumber
word_fault (Some n) = None

abbrev pub numbers_fault : List (List ℕ) → Option Kind
numbers_fault [] = None
numbers_fault (word ∷ words) = option_or (word_fault (numeral_value word)) (numbers_fault words)

-- a process by its name, and then numbers
abbrev pub read_line_fault : List (List ℕ) → List (List ℕ) → Option Kind
read_line_fault names [] = Some WordCount
read_line_fault names (word ∷ words) =
    option_or (process_found_fault (process_named names word)) (numbers_fault words)

-- a line at a place, by its first word and the words after it
abbrev pub reading_words_fault : List (List ℕ) → Place → Head → List (List ℕ) → Option Kind
reading_words_fault names AfterEnd _ words = Some Trailing
reading_words_fault names AtReadings Read words = read_line_fault names words
reading_words_fault names AtReadings End words = end_line_fault words
reading_words_fault names AtReadings Other words = Some OutOfOrder

abbrev pub all_words_fault : List (List ℕ) → Place → List (List ℕ) → Option Kind
all_words_fault names place [] = None
all_words_fault names place (word ∷ words) = reading_words_fault names place (reading_head word) words

-- the first test of a line that fails
unfoldable pub read_line_kind : Version → List (List ℕ) → Place → RawLine → Option Kind
read_line_kind version names place line =
    if not line.whole then Some Cut
    else (if not (list_all is_allowed line.text) then Some BadByte
    else all_words_fault names place (words_in version line))

-- at the end of the text, after so many lines
abbrev pub reading_end_fault : Place → ℕ → Option TextFault
reading_end_fault AfterEnd n = None
reading_end_fault AtReadings n = Some (next_fault n NoEnd)

-- the first wrong line of those that come at a place after so many
abbrev pub reading_faults : Version → List (List ℕ) → Place → ℕ → List RawLine → Option TextFault
reading_faults version names place n [] = reading_end_fault place n
reading_faults version names place n (line ∷ lines) =
    option_or (option_map (next_fault n) (read_line_kind version names place line))
    (reading_faults version names (reading_place_by place (words_in version line)) (n + 1) lines)

-- Texts of a job with readings: a job, a line whose only word is `readings`, lines `read`, and `end`.
use Rattle.std.specs.Prelude.{ℕ, ◌+◌, not, Bool, false, List, [], ◌∷◌, length, codes, slice_get}
use Rattle.std.specs.Prelude.{Option, Some, None, if◌then◌else◌}
use Rattle.std.specs.Option.{option_or}
use Rattle.std.specs.Str.{bytes_eq}
use Rattle.za_text.specs.Lines.{RawLine, lines_of}
use Rattle.za_text.specs.Words.{words_of}
use Rattle.za_text.specs.Divided.{bytes_of_lines, place_in, lines_before, lines_after}
use Rattle.za_text.specs.declared.kind.Kind.TheVariants.{Cut, NoEnd}
use Rattle.za_text.specs.declared.kind.TextFault.{TextFault}
use Rattle.za_lang.specs.Documents.{fault_of, job_of, next_fault}
use Rattle.za_lang.specs.Jobs.{JobData}
use Rattle.za_lang.specs.Namings.{Naming}
use Rattle.za_news.specs.declared.order.Place.TheVariants.{AtReadings}
use Rattle.za_news.specs.Grammar.{reading_faults, readings_said}

-- whether the words are this one alone
abbrev pub only_is : List ℕ → List (List ℕ) → Bool
only_is only (word ∷ []) = bytes_eq word only
only_is only _ = false

-- whether the only word of the line is `readings`: the first such line divides the text
abbrev pub is_readings_line : RawLine → Bool
is_readings_line line = only_is (codes "readings") (words_of line.text)

-- the document before this line: all of the text where there is no such line
abbrev pub document_bytes : List ℕ → List ℕ
document_bytes bytes = bytes_of_lines (lines_before is_readings_line (lines_of bytes))

-- the job that this document says
abbrev pub news_job : List ℕ → JobData
news_job bytes = job_of (document_bytes bytes)

-- the lines after the line that divides the text
abbrev pub readings_lines : List ℕ → List RawLine
readings_lines bytes = lines_after is_readings_line (lines_of bytes)

-- the readings that these say
abbrev pub news_readings : List ℕ → List (List ℕ)
news_readings bytes =
    let naming = (news_job bytes).naming in readings_said naming.version naming.names (readings_lines bytes)

-- the first wrong line from the line that divides the text on, which stands after so many lines
abbrev pub divided_fault : Naming → ℕ → RawLine → List RawLine → Option TextFault
divided_fault naming n line after =
    if not line.whole then Some (next_fault n Cut)
    else reading_faults naming.version naming.names AtReadings (n + 1) after

-- the refusal of a text whose document is a job: at its end where no line divides it, and else from that line on
abbrev pub readings_fault : List ℕ → Option RawLine → Option TextFault
readings_fault bytes None = Some (next_fault (length (lines_of bytes)) NoEnd)
readings_fault bytes (Some line) =
    divided_fault (news_job bytes).naming (place_in is_readings_line (lines_of bytes)) line (readings_lines bytes)

-- the refusal of a text: that of its document, and else that of the rest
abbrev pub news_fault : List ℕ → Option TextFault
news_fault bytes =
    let dividing = slice_get (lines_of bytes) (place_in is_readings_line (lines_of bytes)) in
    option_or (fault_of (document_bytes bytes)) (readings_fault bytes dividing)

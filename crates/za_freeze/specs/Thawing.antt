-- What a frozen text says, and its first wrong line.
use Rattle.std.specs.Prelude.{◌≡◌, ℕ, suc, nat_lt, not, Bool, List, [], ◌∷◌, length, codes}
use Rattle.std.specs.Prelude.{◌⊎◌, slice_get, Option, Some, None, if◌then◌else◌, unwrap_or}
use Rattle.std.specs.List.{list_all}
use Rattle.std.specs.Option.{option_or, option_map}
use Rattle.std.specs.Str.{bytes_eq}
use Rattle.za_text.specs.Lines.{RawLine, lines_of, is_allowed}
use Rattle.za_text.specs.Words.{words_of}
use Rattle.za_text.specs.Numbers.{numeral_value}
use Rattle.za_text.specs.Divided.{begins_with, bytes_of, bytes_of_lines, place_in, lines_before}
use Rattle.za_text.specs.declared.kind.Kind.{Kind}
use Rattle.za_text.specs.declared.kind.Kind.TheVariants.{Cut, BadByte, WordCount, NoEnd, BadNumber, NoSuchCut, NotOwn}
use Rattle.za_text.specs.declared.kind.TextFault.{TextFault}
use Rattle.za_dfa.specs.Partials.{completion}
use Rattle.za_dfa.specs.Tables.{CompleteDfa}
use Rattle.za_closure.specs.Breaks.{AreBreakWords}
use Rattle.za_lang.specs.Documents as document
use Rattle.za_lang.specs.Documents.{next_fault}
use Rattle.za_lang.specs.Jobs.{JobData}
use Rattle.za_freeze.specs.declared.thawing.ThawFault.{ThawFault}
use Rattle.za_freeze.specs.declared.thawing.ThawFault.TheVariants as thaw_fault
use Rattle.za_freeze.specs.Frozen.{woven_of, frozen_text, IsAutomatonOf}

-- whether the first word of a line is `cut`: the first such line divides the text
abbrev pub is_cut_line : RawLine → Bool
is_cut_line line = begins_with (codes "cut") line

-- the document before it, and the job that this says
abbrev pub bytes_before : List ℕ → List ℕ
bytes_before bytes = bytes_of_lines (lines_before is_cut_line (lines_of bytes))

abbrev pub frozen_job : List ℕ → JobData
frozen_job bytes = document.job_of (bytes_before bytes)

-- how many lines stand before it
abbrev pub cut_place : List ℕ → ℕ
cut_place bytes = place_in is_cut_line (lines_of bytes)

-- the line, where there is one
abbrev pub cut_line : List ℕ → Option RawLine
cut_line bytes = slice_get (lines_of bytes) (cut_place bytes)

-- The cut line.

-- its number, which is at most this
abbrev pub number_fault : ℕ → Option ℕ → Option Kind
number_fault most None = Some BadNumber
number_fault most (Some k) = if nat_lt most k then Some NoSuchCut else None

abbrev pub cut_words_fault : ℕ → List (List ℕ) → Option Kind
cut_words_fault most (first ∷ number ∷ []) = number_fault most (numeral_value number)
cut_words_fault most _ = Some WordCount

-- the first test of the line that fails
abbrev pub cut_line_fault : ℕ → RawLine → Option Kind
cut_line_fault most line =
    if not line.whole then Some Cut
    else (if not (list_all is_allowed line.text) then Some BadByte else cut_words_fault most (words_of line.text))

-- the refusal of the line after so many others, and of a text without such a line that of its missing end
abbrev pub cut_fault : ℕ → ℕ → Option RawLine → Option TextFault
cut_fault most before None = Some (next_fault before NoEnd)
cut_fault most before (Some line) = option_map (next_fault before) (cut_line_fault most line)

-- the refusal of a text before its language is looked at: that of its document, and else that of its cut line
abbrev pub reading_fault : List ℕ → Option TextFault
reading_fault bytes =
    option_or (document.fault_of (bytes_before bytes))
    (cut_fault (length (woven_of (frozen_job bytes))) (cut_place bytes) (cut_line bytes))

-- the number that words say
abbrev pub number_said : List (List ℕ) → ℕ
number_said (first ∷ number ∷ []) = unwrap_or (numeral_value number) 0
number_said _ = 0

abbrev pub cut_said : Option RawLine → ℕ
cut_said None = 0
cut_said (Some line) = number_said (words_of line.text)

-- after how many events the text says that the processes are frozen
abbrev pub cut_of : List ℕ → ℕ
cut_of bytes = cut_said (cut_line bytes)

-- The comparison.

-- whether two lines have the same bytes, their line feeds among them
abbrev pub same_line : RawLine → RawLine → Bool
same_line l m = bytes_eq (bytes_of l) (bytes_of m)

-- how many lines stand before the first that differs; a line that one of both lacks differs
abbrev pub first_other : List RawLine → List RawLine → Option ℕ
first_other [] [] = None
first_other [] (m ∷ ms) = Some 0
first_other (l ∷ ls) [] = Some 0
first_other (l ∷ ls) (m ∷ ms) = if same_line l m then option_map (λ n. suc n) (first_other ls ms) else Some 0

-- of one text against another
abbrev pub fault_against : List ℕ → List ℕ → Option TextFault
fault_against own bytes = option_map (λ n. next_fault n NotOwn) (first_other (lines_of bytes) (lines_of own))

-- the first line that isn't that of the frozen text of the text's job and number
abbrev pub not_own_fault : CompleteDfa → List ℕ → Option TextFault
not_own_fault d bytes = fault_against (frozen_text (frozen_job bytes) d (cut_of bytes)) bytes

-- The refusal.

-- all else is right, and a line is another than that of the frozen text
abbrev pub IsNotOwn : List ℕ → TextFault → Type 0
IsNotOwn bytes fault =
    (reading_fault bytes ≡ None)
    × ((d : CompleteDfa) × IsAutomatonOf (frozen_job bytes) d × (not_own_fault d bytes ≡ Some fault))

-- why a text is refused, unless memory was
abbrev pub IsRefusedFor : List ℕ → ThawFault → Type 0
IsRefusedFor bytes (thaw_fault.Text fault) = (reading_fault bytes ≡ Some fault) ⊎ IsNotOwn bytes fault
IsRefusedFor bytes (thaw_fault.NotClosed left right) =
    (reading_fault bytes ≡ None) × AreBreakWords (completion (frozen_job bytes).lang) left right
IsRefusedFor bytes thaw_fault.OutOfMemory = Unit {0}

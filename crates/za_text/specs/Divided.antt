-- A text divided at its first line that passes a test.
use Rattle.std.specs.Prelude.{ℕ, ◌+◌, ◌++◌, not, Bool, false, List, [], ◌∷◌, take, drop, if◌then◌else◌}
use Rattle.std.specs.List.{flat_map, prefix_len}
use Rattle.std.specs.Str.{bytes_eq}
use Rattle.za_text.specs.Lines.{RawLine}
use Rattle.za_text.specs.Words.{words_of}

-- the bytes of a line, its line feed among them
abbrev pub bytes_of : RawLine → List ℕ
bytes_of l = l.text ++ (if l.whole then 10 ∷ [] else [])

abbrev pub bytes_of_lines : List RawLine → List ℕ
bytes_of_lines lines = flat_map bytes_of lines

-- how many lines stand before the first that passes: all, where none does
abbrev pub place_in : (RawLine → Bool) → List RawLine → ℕ
place_in test lines = prefix_len (λ l. not (test l)) lines

abbrev pub lines_before : (RawLine → Bool) → List RawLine → List RawLine
lines_before test lines = take (place_in test lines) lines

-- the line itself, after the lines before it
abbrev pub lines_through : (RawLine → Bool) → List RawLine → List RawLine
lines_through test lines = take (place_in test lines + 1) lines

abbrev pub lines_after : (RawLine → Bool) → List RawLine → List RawLine
lines_after test lines = drop (place_in test lines + 1) lines

-- whether the first of the words is this
abbrev pub first_is : List ℕ → List (List ℕ) → Bool
first_is first [] = false
first_is first (word ∷ words) = bytes_eq word first

-- whether the first word of the line is this
abbrev pub begins_with : List ℕ → RawLine → Bool
begins_with first l = first_is first (words_of l.text)

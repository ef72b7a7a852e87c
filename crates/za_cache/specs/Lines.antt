-- What contracts see of rows: a list of lines, the most recently used first.
use Rattle.std.specs.Prelude.{◌≡◌, ℕ, ◌<◌, ◌&&◌, Bool, List, [], ◌∷◌, ◌++◌, length, nat_eq}
use Rattle.std.specs.List.{IsDistinct}
use Rattle.std.specs.Map.{keys_of}
use Rattle.std.specs.Cmp.Lexicographic.{pointwise}
use Rattle.za_cache.specs.declared.rows.Line.{Line}
use Rattle.za_cache.specs.declared.rows.Kept.{Kept}
use Rattle.za_cache.specs.declared.rows.Kept.TheVariants.{Stored, Replaced, Refused}

-- the key of a line: a letter and the keys of the inputs
pub record LineKey : Type 0 where
  pub letter : ℕ
  pub inputs : List ℕ

-- the lines, each a key with the key of its output, and how many there may be
pub record Lines : Type 0 where
  pub lines : List (LineKey × ℕ)
  pub capacity : ℕ

-- whether the key is of this letter and these inputs
abbrev pub is_key : ℕ → List ℕ → LineKey → Bool
is_key letter inputs key = nat_eq letter key.letter && pointwise nat_eq inputs key.inputs

-- no two lines have the same letter and the same inputs
abbrev pub AreDistinct : Lines → Type 0
AreDistinct l = IsDistinct (λ (one : LineKey). is_key one.letter one.inputs) (keys_of l.lines)

abbrev pub line_key : ℕ → List ℕ → LineKey
line_key letter inputs = record { letter = letter; inputs = inputs }

-- a line that was handed back, wherever its list lies in memory
abbrev pub bare_line : Line → LineKey × ℕ
bare_line line = (line_key line.letter line.inputs.items, line.output)

-- what keeping the line has done, by the answer: it stands in front, and there was room; or it stands in front, and
-- the last line is gone and handed back, since the rows were full; or the rows are as they were, and it is handed back
abbrev pub HasKept : Lines → Lines → LineKey × ℕ → Kept → Type 0
HasKept old new line Stored =
    (length old.lines < old.capacity) × (new ≡ record old { lines = line ∷ old.lines })
HasKept old new line (Replaced last) =
    (length old.lines ≡ old.capacity) ×
    ((rest : List (LineKey × ℕ)) × (old.lines ≡ rest ++ bare_line last ∷ []) ×
    (new ≡ record old { lines = line ∷ rest }))
HasKept old new line (Refused given) = (new ≡ old) × (bare_line given ≡ line)

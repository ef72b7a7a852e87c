-- Lines of a text.
use Rattle.std.specs.Prelude.{◌≡◌, ℕ, ◌+◌, ◌<◌, ◌==◌, ◌&&◌, ◌||◌, nat_le, Bool, true, false, List, [], ◌∷◌, length}
use Rattle.std.specs.Prelude.{if◌then◌else◌}
use Rattle.za_text.specs.declared.line.Line.{Line}
use Rattle.za_text.specs.declared.line.Lines.TheInside.{Inside}

-- a line of a text: its bytes, and whether a line feed ends it
pub record RawLine : Type 0 where
  pub text : List ℕ
  pub whole : Bool

-- the lines of a byte and of the bytes after it, where it is no line feed
abbrev pub put_front : ℕ → List RawLine → List RawLine
put_front b [] = record { text = b ∷ []; whole = false } ∷ []
put_front b (l ∷ ls) = record { text = b ∷ l.text; whole = l.whole } ∷ ls

-- the lines of a text
abbrev pub lines_of : List ℕ → List RawLine
lines_of [] = []
lines_of (b ∷ bs) = if b == 10 then record { text = []; whole = true } ∷ lines_of bs else put_front b (lines_of bs)

abbrev pub raw : Line → RawLine
raw l = record { text = l.text.now; whole = l.whole }

-- the bytes that a line may hold
abbrev pub is_allowed : ℕ → Bool
is_allowed b = b == 9 || (nat_le 32 b && nat_le b 126)

-- the bytes after the lines so far, and how many lines those are
pub record LeftLines : Type 0 where
  pub rest : List ℕ
  pub passed : ℕ

abbrev pub left_lines : Inside → LeftLines
left_lines s = record { rest = s.rest.now; passed = s.passed }

abbrev pub IsLeft : Inside → Type 0
IsLeft s = s.passed + length s.rest.now < 4294967295

-- the line is the first of those left, and the others are left
pub record IsNextLine (old new : LeftLines) (l : Line) : Type 0 where
  pub first : lines_of old.rest ≡ raw l ∷ lines_of new.rest
  pub number : l.number ≡ old.passed + 1
  pub passed : new.passed ≡ old.passed + 1
  pub shorter : length new.rest < length old.rest

-- no line is left, and nothing changes
pub record IsLastLine (old new : LeftLines) : Type 0 where
  pub none : lines_of old.rest ≡ []
  pub same : new ≡ old

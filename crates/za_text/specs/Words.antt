-- Words of a line.
use Rattle.std.specs.Prelude.{◌≡◌, ℕ, ◌≤◌, ◌<◌, ◌==◌, ◌||◌, not, Bool, List, [], ◌∷◌, length, drop, slice_range}
use Rattle.std.specs.Prelude.{if◌then◌else◌}
use Rattle.std.specs.List.{filter}
use Rattle.za_text.specs.declared.word.Token.{Token}
use Rattle.za_text.specs.declared.word.WordsOf.TheInside.{Inside}

-- space and tab
abbrev pub is_gap : ℕ → Bool
is_gap b = b == 32 || b == 9

-- the pieces of a byte and of the bytes after it, where it is no gap
abbrev pub put_first : ℕ → List (List ℕ) → List (List ℕ)
put_first b [] = (b ∷ []) ∷ []
put_first b (w ∷ ws) = (b ∷ w) ∷ ws

-- what stands before, between and after the gap bytes
abbrev pub pieces : List ℕ → List (List ℕ)
pieces [] = [] ∷ []
pieces (b ∷ bs) = if is_gap b then [] ∷ pieces bs else put_first b (pieces bs)

-- the words of a line: its maximal runs of other bytes
abbrev pub words_of : List ℕ → List (List ℕ)
words_of bytes = filter (λ piece. not (length piece == 0)) (pieces bytes)

-- a line, and up to where its words have been read
pub record LeftWords : Type 0 where
  pub line : ℕ
  pub text : List ℕ
  pub at : ℕ

abbrev pub left_words : Inside → LeftWords
left_words s = record { line = s.line; text = s.text.now; at = s.at }

abbrev pub IsWithin : Inside → Type 0
IsWithin s = s.at ≤ length s.text.now

-- the words that are left
abbrev pub left_in : LeftWords → List (List ℕ)
left_in s = words_of (drop s.at s.text)

-- the word is the first of those left, and the others are left
pub record IsNextWord (old new : LeftWords) (t : Token) : Type 0 where
  pub first : left_in old ≡ slice_range old.text t.from t.to ∷ left_in new
  pub text : new.text ≡ old.text
  pub line : new.line ≡ old.line
  pub of_line : t.line ≡ old.line
  pub after : old.at ≤ t.from
  pub ordered : t.from < t.to
  pub at : new.at ≡ t.to
  pub within : t.to ≤ length old.text

-- no word is left, and nothing changes
pub record IsLastWord (old new : LeftWords) : Type 0 where
  pub none : left_in old ≡ []
  pub same : new ≡ old

-- Texts as lines of words.
use Rattle.std.specs.Prelude.{ℕ, List, [], ◌∷◌, ◌++◌, decimal}
use Rattle.std.specs.List.{flat_map}

-- words, each after a space
abbrev pub spaced : List (List ℕ) → List ℕ
spaced words = flat_map (λ (word : List ℕ). 32 ∷ word) words

-- a line: its words with one space between two, and a line feed
abbrev pub line : List (List ℕ) → List ℕ
line [] = 10 ∷ []
line (word ∷ words) = word ++ spaced words ++ 10 ∷ []

-- the text of these lines
abbrev pub text_of : List (List (List ℕ)) → List ℕ
text_of lines = flat_map line lines

-- a line of a word and a number
abbrev pub number_line : List ℕ → ℕ → List (List ℕ)
number_line word n = word ∷ decimal n ∷ []

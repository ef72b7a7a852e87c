-- What a process knows by what it keeps.
use Rattle.std.specs.Prelude.{ℕ, ◌++◌, List, [], ◌∷◌, codes, decimal, map}
use Rattle.za_alpha.specs.Alphabet.{DistributedAlphabet}
use Rattle.za_write.specs.Events.{number_word}

-- the numbers of events that a process keeps as words, and a state
abbrev pub kept_words : DistributedAlphabet → List ℕ → ℕ → List (List ℕ)
kept_words alphabet numbers state = map (number_word alphabet) numbers ++ codes "view" ∷ decimal state ∷ []

-- What contracts see of marks.
use Rattle.std.specs.Prelude.{ℕ, List, []}
use Rattle.za_alpha.specs.Alphabet.{DistributedAlphabet}

-- the alphabet, the word so far, and how many events there is room for in all
pub record MarkedWord : Type 0 where
  pub alphabet : DistributedAlphabet
  pub word : List ℕ
  pub room : ℕ

-- the empty word
abbrev pub unmarked : DistributedAlphabet → ℕ → MarkedWord
unmarked alphabet room = record { alphabet = alphabet; word = []; room = room }

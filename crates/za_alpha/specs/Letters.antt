-- Lists of letters as lists of numbers.
use Rattle.std.specs.Prelude.{ℕ, List, map}
use Rattle.za_alpha.specs.declared.word.Letter.{Letter}

abbrev pub numbers : List Letter → List ℕ
numbers letters = map (λ (l : Letter). l.0) letters

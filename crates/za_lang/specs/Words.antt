-- The words of a line that are left.
use Rattle.std.specs.Prelude.{◌≡◌, ℕ, List}
use Rattle.za_text.specs.Words.{left_in}
use Rattle.za_lang.specs.declared.words.Words.TheInside.{Inside}

abbrev pub words_left : Inside → List (List ℕ)
words_left s = left_in s.left

abbrev pub IsOfText : Inside → Type 0
IsOfText s = s.left.text ≡ s.text.now

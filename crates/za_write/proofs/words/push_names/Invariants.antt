use Rattle.std.proofs.Common.{◌≡◌, ◌++◌, take, map}
use Rattle.za_alpha.specs.Letters.{numbers}
use Rattle.za_alpha.specs.Alphabet.{name_at}
use Rattle.za_text.specs.Printed.{spaced}
use Rattle.za_write.proofs.words.push_names.Given as goal

-- the names of the letters so far
abbrev pub invariant-loop-a : goal.invariant-loop-a
invariant-loop-a l = l.text.items ≡ l.initial.text.items ++ spaced (map (name_at l.alphabet.letters) (numbers (take l.a-index l.letters)))

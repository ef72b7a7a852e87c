use Rattle.std.proofs.Common.{◌≡◌, drop}
use Rattle.za_alpha.specs.Words.{projection}
use Rattle.za_alpha.specs.Letters.{numbers}
use Rattle.za_alpha.specs.Alphabet.{loc_of}
use Rattle.za_alpha.proofs.alphabet.Alphabet.next_of.Given as goal

-- no letter so far has the process
abbrev pub invariant-loop-i : goal.invariant-loop-i
invariant-loop-i l = projection (loc_of l.self) l.p (drop l.at (numbers l.letters)) ≡ projection (loc_of l.self) l.p (drop l.i (numbers l.letters))

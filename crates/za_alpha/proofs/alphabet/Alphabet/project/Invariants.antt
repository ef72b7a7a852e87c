use Rattle.std.proofs.Common.{◌≡◌, take}
use Rattle.za_alpha.specs.Words.{projection}
use Rattle.za_alpha.specs.Letters.{numbers}
use Rattle.za_alpha.specs.Alphabet.{loc_of}
use Rattle.za_alpha.proofs.alphabet.Alphabet.project.Given as goal

-- the projection of the letters so far
abbrev pub invariant-loop-a : goal.invariant-loop-a
invariant-loop-a l = l.seen ≡ projection (loc_of l.self) l.p (numbers (take l.a-index l.letters))

use Rattle.std.proofs.Common.{◌≡◌, ◌≤◌, length, take}
use Rattle.za_alpha.specs.Words.{projection}
use Rattle.za_alpha.specs.Letters.{numbers}
use Rattle.za_alpha.specs.Alphabet.{loc_of}
use Rattle.za_script.proofs.rest.count_of.Given as goal

-- so many of the first letters
abbrev pub invariant-loop-a : goal.invariant-loop-a
invariant-loop-a l = record {
  value : l.count ≡ length (projection (loc_of l.alphabet) l.p (numbers (take l.a-index l.letters)));
  within : l.count ≤ l.a-index;
}

use Rattle.std.proofs.Common.{◌≡◌, length, take}
use Rattle.za_alpha.specs.Rows.{alphabet_of_rows}
use Rattle.za_alpha.proofs.alphabet.Alphabet.new.Given as goal

-- the first rows are added
abbrev pub invariant-loop-row : goal.invariant-loop-row
invariant-loop-row l = record {
  added : l.letters ≡ alphabet_of_rows l.fn.n l.yielded;
  first : l.yielded ≡ take (length l.yielded) l.fn.rows.items;
}

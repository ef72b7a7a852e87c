use Rattle.std.proofs.Common.{◌≡◌, [], take, drop, map}
use Rattle.za_alpha.specs.Rows.{letters_fault, letter_of_row}
use Rattle.za_alpha.specs.Private.Index.{IsIndex}
use Rattle.za_alpha.proofs.rows.fault_of.Given as goal

-- the rows so far are right, so the first fault is that of the rest, and the index has their names
abbrev pub invariant-loop-at : goal.invariant-loop-at
invariant-loop-at l = record {
  right : letters_fault l.processes (take l.at l.rows) (drop l.at l.rows) ≡ letters_fault l.processes [] l.rows;
  indexed : IsIndex (map letter_of_row (take l.at l.rows)) l.index;
}

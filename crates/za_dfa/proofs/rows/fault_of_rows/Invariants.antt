use Rattle.std.proofs.Common.{◌≡◌, [], take, drop}
use Rattle.za_dfa.specs.Rows.{rows_fault}
use Rattle.za_dfa.proofs.rows.fault_of_rows.Given as goal

-- the rows so far are right, so the first fault is that of the rest
abbrev pub invariant-loop-at : goal.invariant-loop-at
invariant-loop-at l = rows_fault l.states (take l.at l.rows) (drop l.at l.rows) ≡ rows_fault l.states [] l.rows

use Rattle.std.proofs.Common.{◌<◌, All, take}
use Rattle.rule_tests.proofs.dfa.are_known.Given as goal

-- the rows so far
abbrev pub invariant-loop-row : goal.invariant-loop-row
invariant-loop-row l = All (λ row. row.letter.0 < l.letters) (take l.row-index l.rows)

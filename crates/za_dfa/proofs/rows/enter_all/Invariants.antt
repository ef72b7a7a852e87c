use Rattle.std.proofs.Common.{◌≡◌, [], take, drop}
use Rattle.za_dfa.specs.Partials.{IsPartial}
use Rattle.za_dfa.specs.Rows.{rows_fault}
use Rattle.za_dfa.specs.Entered.{AreEntered}
use Rattle.za_dfa.proofs.rows.enter_all.Given as goal

-- the rows so far are right and entered, so the first fault is that of the rest
abbrev pub invariant-loop-at : goal.invariant-loop-at
invariant-loop-at l = record {
  whole : IsPartial l.partial;
  same : l.partial ≡ record l.initial.partial { targets = l.partial.targets };
  fault : rows_fault l.initial.partial.states (take l.at l.rows) (drop l.at l.rows) ≡ rows_fault l.initial.partial.states [] l.rows;
  entered : AreEntered l.partial (take l.at l.rows);
}

-- A partial table into which rows were entered.
use Rattle.std.specs.Prelude.{◌≡◌, List, [], None, length}
use Rattle.za_dfa.specs.declared.rows.Row.{Row}
use Rattle.za_dfa.specs.Partials.{PartialDfa}
use Rattle.za_dfa.specs.Rows.{cells_of, rows_fault}

-- the table's cells are those of the rows, none of which is wrong
pub record AreEntered (partial : PartialDfa) (rows : List Row) : Type 0 where
  pub cells : partial.targets ≡ cells_of partial.states (length partial.alphabet.letters) rows
  pub right : rows_fault partial.states [] rows ≡ None

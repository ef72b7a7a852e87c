-- What a desk of a hall knows. A view has one number, the process of the desk, except while desks are made and put
-- together.
use Rattle.std.specs.Prelude.{ℕ, Bool, List, Option}
use Rattle.za_table.specs.Tables.{Given, TableState}

-- of one process: how often it arrived, whether it ended, the places of its firings that were told of, and the
-- letter in hand
pub record Note : Type 0 where
  pub number : ℕ
  pub arrivals : ℕ
  pub ended : Bool
  pub fired : List ℕ
  pub hand : Option ℕ

-- the job of its hall, a note for each of its numbers, how often it tried to have the turn and the word that it
-- found last, whether it holds the turn, the table that it took last and the one that it gave back last, and
-- whether it has seen that all is over
pub record View : Type 0 where
  pub given : Given
  pub notes : List Note
  pub tries : ℕ
  pub found : ℕ
  pub holds : Bool
  pub took : TableState
  pub gave : TableState
  pub over : Bool

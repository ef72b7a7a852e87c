-- What follows where rows have no fault.
use Rattle.std.proofs.Common.{◌≡◌, ℕ, ◌<◌, Bool, true, false, ◌&&◌, not, cond, List, length, Some, None, refl, arith}
use Rattle.std.specs.Prelude.{nat_lt}
use Rattle.std.proofs.lemmas.Bool.{not-false}
use Rattle.std.proofs.lemmas.Bool.Decides.{nat_tests}
use Rattle.za_alpha.proofs.RowLemmas.{none_of_cond}
use Rattle.za_dfa.specs.declared.rows.Row.{Row}
use Rattle.za_dfa.specs.declared.fault.DfaFault.TheVariants.{TwoTargets}
use Rattle.za_dfa.specs.Rows.{has_other, row_fault}

-- a row that passes its tests
pub record IsRightRow (states : ℕ) (before : List Row) (row : Row) : Type 0 where
  pub from_below : row.from < states
  pub to_below : row.to < states
  pub uncontradicted : has_other before row.from row.letter.0 row.to ≡ false

pub right_row : (states : ℕ) (before : List Row) (row : Row) → row_fault states before row ≡ None → IsRightRow states before row
unfolding row_fault
right_row states before row none =
    let inside = none_of_cond (not (nat_lt row.from states && nat_lt row.to states)) _ _ none in
    let alone = none_of_cond (has_other before row.from row.letter.0 row.to) _ _ inside.1 in
    let both = not-false (nat_lt row.from states && nat_lt row.to states) inside.0 in
    record { from_below = grind (arith, nat_tests); to_below = grind (arith, nat_tests); uncontradicted = alone.0 }

-- the fault of a row that leads from a state to a state, where it is known whether a row before has another target
pub fault_by_other : (states : ℕ) (before : List Row) (row : Row) (other : Bool) → row.from < states → row.to < states →
    has_other before row.from row.letter.0 row.to ≡ other →
    row_fault states before row ≡ cond other (Some (TwoTargets (length before) row.from row.letter)) None
unfolding row_fault
fault_by_other states before row other from_below to_below e =
    let from : nat_lt row.from states ≡ true = grind (arith, nat_tests) in
    let to : nat_lt row.to states ≡ true = grind (arith, nat_tests) in
    rw (from, to, e) refl

-- The rows that a table is made of, the first that is wrong, and the completed table.
use Rattle.std.specs.Prelude.{ℕ, ◌*◌, ◌/◌, ◌%◌, ◌==◌, ◌&&◌, ◌++◌, nat_lt, nat_le, not, Bool}
use Rattle.std.specs.Prelude.{List, [], ◌∷◌, length, map, Option, Some, None, if◌then◌else◌}
use Rattle.std.specs.List.{list_any, range_with_len}
use Rattle.std.specs.Option.{option_or}
use Rattle.za_alpha.specs.Alphabet.{DistributedAlphabet}
use Rattle.za_dfa.specs.declared.rows.Row.{Row}
use Rattle.za_dfa.specs.declared.fault.DfaFault.{DfaFault}
use Rattle.za_dfa.specs.declared.fault.DfaFault.TheVariants.{StateCount, NoSuchStart, NoSuchState, TwoTargets}
use Rattle.za_dfa.specs.Limits.{most_states}
use Rattle.za_dfa.specs.Tables.{CompleteDfa}
use Rattle.za_dfa.specs.Partials.{PartialDfa, completion}

-- whether the row is of state q and letter a
abbrev pub is_at : ℕ → ℕ → Row → Bool
is_at q a row = row.from == q && row.letter.0 == a

-- the target of the first row of state q and letter a
abbrev pub target_in : List Row → ℕ → ℕ → Option ℕ
target_in [] q a = None
target_in (row ∷ rows) q a = if is_at q a row then Some row.to else target_in rows q a

-- whether a row of state q and letter a has another target
abbrev pub has_other : List Row → ℕ → ℕ → ℕ → Bool
has_other rows q a target = list_any (λ (row : Row). is_at q a row && not (row.to == target)) rows

-- the fault of a row after the rows before it: the first of its tests that fails
unfoldable pub row_fault : ℕ → List Row → Row → Option DfaFault
row_fault states before row =
    let at = length before in
    if not (nat_lt row.from states && nat_lt row.to states) then Some (NoSuchState at)
    else (if has_other before row.from row.letter.0 row.to then Some (TwoTargets at row.from row.letter) else None)

-- the fault of the first wrong row
abbrev pub rows_fault : ℕ → List Row → List Row → Option DfaFault
rows_fault states before [] = None
rows_fault states before (row ∷ rows) =
    option_or (row_fault states before row) (rows_fault states (before ++ row ∷ []) rows)

-- the first fault, if there is one
abbrev pub dfa_fault : ℕ → ℕ → List Row → Option DfaFault
dfa_fault states start rows =
    if not (nat_le 1 states && nat_le states most_states) then Some StateCount
    else (if not (nat_lt start states) then Some NoSuchStart
    else rows_fault states [] rows)

-- the cells of rows, by state and then by letter: the target of the first row of each state and letter
abbrev pub cells_of : ℕ → ℕ → List Row → List (Option ℕ)
cells_of states letters rows =
    map (λ i. target_in rows (i / letters) (i % letters)) (range_with_len 0 (states * letters))

-- the partial table of rows
abbrev pub partial_of : DistributedAlphabet → ℕ → ℕ → List Bool → List Row → PartialDfa
partial_of alphabet states start accepting rows =
    let cells = cells_of states (length alphabet.letters) rows in
    record { alphabet = alphabet; states = states; start = start; accepting = accepting; targets = cells }

-- the table of the rows: where a row is missing, one rejecting state is added, to which each missing
-- row leads, and which leads to itself
abbrev pub completed : DistributedAlphabet → ℕ → ℕ → List Bool → List Row → CompleteDfa
completed alphabet states start accepting rows = completion (partial_of alphabet states start accepting rows)

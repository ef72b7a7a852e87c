-- Who is missing at a letter, and what an arrival answers.
use Rattle.std.specs.Prelude.{◌≡◌, ℕ, Bool, true, false, not, ◌&&◌, [], Some}
use Rattle.za_alpha.specs.Words.{has}
use Rattle.za_alpha.specs.Procs.{members}
use Rattle.za_alpha.specs.declared.procs.Procs.{Procs}
use Rattle.za_script.specs.Scripts.{comes_next}
use Rattle.za_machine.specs.Machine.{Machine, State, is_in, fired_by, next, is_complete}
use Rattle.za_table.specs.declared.arrival.Arrival.{Arrival}
use Rattle.za_table.specs.declared.arrival.Arrival.TheVariants.{Complete, Short}

-- whether the process has arrived at the letter
abbrev pub waits_at : Machine → State → ℕ → ℕ → Bool
waits_at m c a p = is_in c.arrived p && comes_next (m.scripts p) (fired_by m c.journal p) a

-- the set has just the processes of the letter that have not arrived at it
abbrev pub AreMissing : Machine → State → ℕ → Procs → Type 0
AreMissing m c a missing = (p : ℕ) → has (members missing) p ≡ (has (m.loc a) p && not (waits_at m c a p))

-- what the arrival of p answers in the state that it leads to: its letter, which is complete; or processes are missing
abbrev pub IsArrival : Machine → State → ℕ → Arrival → Type 0
IsArrival m c p (Complete a) = (next m c.journal p ≡ Some a.0) × (is_complete m c a.0 ≡ true)
IsArrival m c p (Short a missing) =
    (next m c.journal p ≡ Some a.0) × (is_complete m c a.0 ≡ false) ×
    AreMissing m c a.0 missing × ¬ (members missing ≡ [])

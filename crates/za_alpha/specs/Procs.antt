-- Sets of processes below 16, kept as the bits of a number.
use Rattle.std.specs.Prelude.{◌≡◌, ℕ, ◌<◌, ◌≤◌, ◌==◌, ◌^◌, false, IsTrue, List, filter, bit_or}
use Rattle.std.specs.List.{range_with_len}
use Rattle.std.specs.Int.{bit_at}
use Rattle.za_alpha.specs.declared.procs.Procs.{Procs}
use Rattle.za_alpha.specs.Words.{has}

-- the processes of the set that are below n, in rising order
unfoldable pub members_below : Procs → ℕ → List ℕ
members_below s n = filter (λ p. bit_at s.0 p == 1) (range_with_len 0 n)

-- the processes of the set, in rising order
abbrev pub members : Procs → List ℕ
members s = members_below s 16

-- the empty set
abbrev pub no_process : Procs
no_process = record { 0 = 0 }

-- the set with one process more
abbrev pub with_process : Procs → ℕ → Procs
with_process s p = record { 0 = bit_or s.0 (2 ^ p) }

-- the process is in the list, and none below it is
pub record IsLeastOf (ps : List ℕ) (p : ℕ) : Type 0 where
  pub inside : IsTrue (has ps p)
  pub below : (q : ℕ) → q < p → has ps q ≡ false

-- the process is in the list, at the start or after it, and none from the start to before it is
pub record IsLeastFrom (ps : List ℕ) (start p : ℕ) : Type 0 where
  pub inside : IsTrue (has ps p)
  pub after : start ≤ p
  pub below : (q : ℕ) → start ≤ q → q < p → has ps q ≡ false

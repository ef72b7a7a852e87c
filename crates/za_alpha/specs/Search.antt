-- Searches among the first numbers.
use Rattle.std.specs.Prelude.{ℕ, zero, suc, Bool, Option, Some, None, if◌then◌else◌}

-- the least number below n that passes the test, and n where none does
abbrev pub least : (ℕ → Bool) → ℕ → ℕ
least test zero = 0
least test (suc n) = if test 0 then 0 else suc (least (λ k. test (suc k)) n)

-- the greatest number below n that passes the test, and none where none does
abbrev pub greatest : (ℕ → Bool) → ℕ → Option ℕ
greatest test zero = None
greatest test (suc n) = if test n then Some n else greatest test n

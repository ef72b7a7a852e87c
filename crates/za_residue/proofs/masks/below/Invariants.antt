use Rattle.std.proofs.Common.{◌≡◌, ℕ, ◌&&◌, nat_lt}
use Rattle.za_alpha.specs.Words.{has}
use Rattle.za_alpha.specs.Procs.{members}
use Rattle.za_ids.specs.Numbers.{event_numbers}
use Rattle.za_residue.specs.Masks.{is_shared}
use Rattle.za_residue.proofs.masks.below.Given as goal

-- the first entries that are shared are there
abbrev pub invariant-loop-s : goal.invariant-loop-s
invariant-loop-s l = (k : ℕ) → has (members l.shared) k ≡ (nat_lt k l.s && is_shared (event_numbers l.primary) (event_numbers l.other) k)

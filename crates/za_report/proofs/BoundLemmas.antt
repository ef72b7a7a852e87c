-- The printed bound is a small number.
use Rattle.std.proofs.Common.{ℕ, ◌+◌, ◌^◌, ◌≤◌, arith}
use Rattle.std.proofs.Math.Nat.{mul-le-mul}
use Rattle.za_alpha.specs.Limits.{most_processes, most_letters}
use Rattle.za_order.specs.Labels.{label_bound}
use Rattle.za_ids.proofs.Numbers.{cube-small}

pub labels-small : (letters n : ℕ) → letters ≤ most_letters → n ≤ most_processes → label_bound letters n ≤ label_bound most_letters most_processes
labels-small letters n few h =
    let cube = cube-small n h in
    mul-le-mul {n₁ = letters} {m₁ = n ^ 3 + 1} {n₂ = most_letters} {m₂ = most_processes ^ 3 + 1} few (omega arith)

-- Digits that are put together stay small.
use Rattle.std.proofs.Common.{◌≡◌, ℕ, ◌+◌, ◌*◌, ◌^◌, ◌-◌, ◌<◌, ◌≤◌, lit<, add-one, arith}
use Rattle.std.proofs.Math.Nat.{pow-suc, pow-le-pow_right}

pub more_digits : (v i d : ℕ) → v + 29 ≤ 29 * 10 ^ i → d < 256 → v * 10 + (d - 48) + 29 ≤ 29 * 10 ^ (i + 1)
more_digits v i d h small =
    let step : 10 ^ (i + 1) ≡ 10 ^ i * 10 = rw add-one (pow-suc 10 i) in
    omega arith

pub few_digits : (v i : ℕ) → v + 29 ≤ 29 * 10 ^ i → i < 10 → v < 29000000000
few_digits v i h small =
    let below : i ≤ 9 = omega arith in
    let bound : 10 ^ i ≤ 10 ^ 9 = pow-le-pow_right (lit< tt) below in
    omega arith

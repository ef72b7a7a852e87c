-- The number of a set.
use Rattle.std.proofs.Common.{◌≡◌, ℕ, zero, suc, ◌+◌, ◌*◌, ◌^◌, ◌<◌, Bool, true, false, ◌==◌, if◌then◌else◌, refl, ap, ◌∙◌, arith}
use Rattle.std.proofs.Math.Nat.{pow-suc}
use Rattle.std.specs.Int.{bit_at}
use Rattle.std.proofs.lemmas.Nat.{div-mul-add, mod-mul-add, mul-add-lt, pow_pos}
use Rattle.std.proofs.lemmas.Nat.Bits.{bit_at_lowest, bit_at-suc}
use Rattle.za_residue.specs.Functions.{in_set}

-- the number of the members below n
abbrev pub set_number : ℕ → (ℕ → Bool) → ℕ
set_number zero set = 0
set_number (suc n) set = set_number n (λ y. set (suc y)) * 2 + (if set 0 then 1 else 0)

pub bit-below : (b : Bool) → (if b then 1 else 0) < 2
bit-below true = omega arith
bit-below false = omega arith

bit-is : (b : Bool) → ((if b then 1 else 0) == 1) ≡ b
bit-is true = refl
bit-is false = refl

pub set_number-below : (n : ℕ) (set : ℕ → Bool) → set_number n set < 2 ^ n
set_number-below zero set = pow_pos 0
set_number-below (suc n) set =
    let l = mul-add-lt (set_number n (λ y. set (suc y))) 2 (if set 0 then 1 else 0) (2 ^ n) (set_number-below n (λ y. set (suc y))) (bit-below (set 0)) in
    let p = pow-suc 2 n in omega arith

-- its members are those
pub in-set_number : (n : ℕ) (set : ℕ → Bool) (y : ℕ) → y < n → in_set (set_number n set) y ≡ set y
in-set_number zero set y l = absurd (omega arith)
in-set_number (suc n) set zero l =
    ap (λ b. b == 1) (bit_at_lowest (set_number (suc n) set) ∙ mod-mul-add (set_number n (λ y. set (suc y))) 2 (if set 0 then 1 else 0) (bit-below (set 0)))
    ∙ bit-is (set 0)
in-set_number (suc n) set (suc y) l =
    ap (λ b. b == 1)
    (bit_at-suc (set_number (suc n) set) y
    ∙ ap (λ m. bit_at m y) (div-mul-add (set_number n (λ y. set (suc y))) 2 (if set 0 then 1 else 0) (bit-below (set 0))))
    ∙ in-set_number n (λ y. set (suc y)) y (omega arith)

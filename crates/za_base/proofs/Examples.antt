-- The definitions at small values.
use Rattle.std.proofs.Common.{◌≡◌, ◌^◌, ◌-◌, [], ◌∷◌, Some, Err, refl, ap, ◌∙◌, length, append-nil, arith, lit<, lit≤}
use Rattle.za_base.specs.Fault.{next_count, Rises}
use Rattle.za_base.specs.Read.{HasRead}
use Rattle.za_base.specs.Write.{HasWritten}
use Rattle.za_base.specs.declared.reading.ReadEnd.TheVariants.{TooLong}

-- a count goes up by one
next_count-example : next_count 4 ≡ 5
next_count-example = refl

-- and stays at its last value
next_count-last : next_count (2 ^ 64 - 1) ≡ 2 ^ 64 - 1
next_count-last = refl

-- a count that stays below its last value did not rise
stays : Rises 4 4 → ⊥
stays r = omega arith

-- three of four bytes are taken where two are the limit
three_of_four : HasRead 2 (Some (1 ∷ 2 ∷ 3 ∷ 4 ∷ [])) (Some (4 ∷ [])) 0 0 (Err TooLong)
three_of_four = ((1 ∷ 2 ∷ 3 ∷ [], (refl, refl)), refl)

-- the fourth byte isn't taken too
not_four_of_four : HasRead 2 (Some (1 ∷ 2 ∷ 3 ∷ 4 ∷ [])) (Some []) 0 0 (Err TooLong) → ⊥
not_four_of_four r =
    let whole : 4 ≡ length r.0.0 = ap length (r.0.1.0 ∙ append-nil r.0.0) in
    omega (arith, r.0.1.1)

-- two of three bytes are written, and then a write fails
two_of_three : HasWritten (1 ∷ 2 ∷ 3 ∷ []) (Some []) (Some (1 ∷ 2 ∷ [])) 0 1 (Err 2)
two_of_three = (lit< tt, refl, lit≤ tt)

-- Places in rows, and searches through all processes.
use Rattle.std.proofs.Common.{◌≡◌, ℕ, zero, suc, ◌+◌, ◌-◌, ◌*◌, ◌<◌, ◌≤◌, ◌∷◌, replicate, List, get_or, take, drop, map, refl, sym, ap, ◌∙◌, arith}
use Rattle.std.proofs.Math.Nat.{suc-mul, mul-le-mul_right}
use Rattle.std.proofs.Math.ListN.{get_or-map}
use Rattle.std.proofs.lemmas.List.{take-map, drop-map}
use Rattle.za_ids.specs.declared.ids.EventId.{EventId}
use Rattle.za_ids.specs.Numbers.{event_numbers}
use Rattle.za_gossip.specs.Rows.{block_at}

-- the place r of the block q of n blocks of m
pub place : (q r n m : ℕ) → q < n → r < m → q * m + r < n * m
place q r n m hq hr =
    let a : suc q * m ≤ n * m = mul-le-mul_right m hq in
    let b = suc-mul q m in
    omega arith

-- the number at a place of a list of numbers of events
pub number-at : (ids : List EventId) (i : ℕ) → get_or (event_numbers ids) i 0 ≡ (get_or ids i (record { 0 = 0 })).0
number-at ids i = get_or-map (λ (id : EventId). id.0) ids i (record { 0 = 0 })

-- the numbers of a block of a list
pub block-numbers : (m : ℕ) (ids : List EventId) (q : ℕ) → event_numbers (take ((q + 1) * m - q * m) (drop (q * m) ids)) ≡ block_at m (event_numbers ids) q
block-numbers m ids q =
    let number : EventId → ℕ = λ id. id.0 in
    let width : (q + 1) * m - q * m ≡ m = omega arith in
    ap (λ k. map number (take k (drop (q * m) ids))) width ∙ sym (ap (take m) (drop-map number (q * m) ids) ∙ take-map number m (drop (q * m) ids))

-- numbers of no events
pub no-events : (n : ℕ) → event_numbers (replicate n (record { 0 = 0 })) ≡ replicate n 0
no-events zero = refl
no-events (suc n) = ap (λ xs. 0 ∷ xs) (no-events n)

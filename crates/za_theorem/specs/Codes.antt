-- Local states as numbers, and a bound of how many there are.
use Rattle.std.specs.Prelude.{◌≡◌, ℕ, ◌+◌, ◌*◌, ◌^◌, ◌<◌, List, [], ◌∷◌, ◌++◌, length, replicate}
use Rattle.za_local.specs.Locals.{LocalState}

-- there are as many numbers as bounds, and each is below its bound
abbrev pub AreBelow : List ℕ → List ℕ → Type 0
AreBelow [] [] = Unit {0}
AreBelow [] (x ∷ xs) = ⊥
AreBelow (b ∷ bs) [] = ⊥
AreBelow (b ∷ bs) (x ∷ xs) = (x < b) × AreBelow bs xs

-- such numbers as one number, the first as its lowest digit
abbrev pub joined : List ℕ → List ℕ → ℕ
joined [] xs = 0
joined (b ∷ bs) [] = 0
joined (b ∷ bs) (x ∷ xs) = joined bs xs * b + x

-- how many entries each of n processes keeps
abbrev pub entry_count : ℕ → ℕ
entry_count n = n + (n * n + n * n * n)

-- numbers of events are below this
abbrev pub event_bound : ℕ → ℕ → ℕ
event_bound letters n = letters * (n ^ 3 + 1) + 1

-- the bounds of all numbers of a local state, for n processes and k states
abbrev pub local_bounds : ℕ → ℕ → ℕ → List ℕ
local_bounds letters n k = replicate (entry_count n) (event_bound letters n) ++ replicate (2 ^ n * k) k

-- all its numbers
abbrev pub local_numbers : LocalState → List ℕ
local_numbers local =
    (local.gossip.primary ++ (local.gossip.secondary ++ local.gossip.tertiary)) ++ local.residues.values

-- its lists have these lengths, and their numbers are below these bounds
pub record IsLocal (letters n k : ℕ) (local : LocalState) : Type 0 where
  pub primary : length local.gossip.primary ≡ n
  pub secondary : length local.gossip.secondary ≡ n * n
  pub tertiary : length local.gossip.tertiary ≡ n * n * n
  pub processes : local.residues.processes ≡ n
  pub states : local.residues.states ≡ k
  pub numbers : AreBelow (local_bounds letters n k) (local_numbers local)

-- it as one number
abbrev pub local_code : ℕ → ℕ → ℕ → LocalState → ℕ
local_code letters n k local = joined (local_bounds letters n k) (local_numbers local)

-- which is below this
abbrev pub local_bound : ℕ → ℕ → ℕ → ℕ
local_bound letters n k = event_bound letters n ^ entry_count n * k ^ (2 ^ n * k)

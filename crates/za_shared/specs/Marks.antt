-- Marks, by which local states are told apart without a look at all that they have.
use Rattle.std.specs.Prelude.{◌≡◌, ℕ, ◌<◌, ◌+◌, ◌%◌, ◌^◌, List, Some, slice_get, slice_set}
use Rattle.std.specs.List.{fold}
use Rattle.za_records.specs.Shelf.{Shelf, count}
use Rattle.za_local.specs.Locals.{LocalState}
use Rattle.za_shared.specs.Holders.{value}

-- the sum of the numbers of the latest events, in 32 bits
abbrev pub mark : LocalState → ℕ
mark l = fold (λ m id. (m + id) % 2 ^ 32) 0 l.gossip.primary

-- where a live key has a mark, it is that of its value
abbrev pub AreMarked : Shelf LocalState → List ℕ → Type 0
AreMarked s marks = (k m : ℕ) → 0 < count s k → slice_get marks k ≡ Some m → m ≡ mark (value s k)

-- the marks after one was written, if there is one at the key
abbrev pub with_mark : List ℕ → ℕ → ℕ → List ℕ
with_mark marks key m = slice_set marks key m

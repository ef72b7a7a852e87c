-- What holds of the fields of a shelf.
use Rattle.std.specs.Prelude.{ℕ, ◌<◌, ◌≤◌, ◌^◌, IsSome}
use Rattle.slab.specs.Slab.{Slab, slab_len, get}
use Rattle.za_records.specs.declared.shelf.Counted.{Counted}
use Rattle.za_records.specs.Shelf.{AreCounted}

module _ {T : Type 0} where
  -- each count is above 0, each value fits, each key has 32 bits, and those that are live are below the number `used`
  pub record IsShelf (slab : Slab (Counted T)) (capacity used : ℕ) : Type 0 where
    pub live_le : slab_len slab ≤ capacity
    pub room : capacity ≤ slab.capacity
    pub small : slab.capacity < 2 ^ 32
    pub counted : AreCounted (record { slots = slab.slots; capacity = capacity })
    pub below : (key : ℕ) → IsSome (get slab key) → key < used
    pub used_few : used ≤ slab.capacity

-- A shelf: a finite map from keys to values with counts.
use Rattle.std.specs.Prelude.{◌≡◌, ◌≢◌, ℕ, ◌<◌, Bool, true, false}
use Rattle.std.specs.Prelude.{List, Option, Some, None, IsSome, count_by, is_some, slice_index_or}
use Rattle.za_records.specs.declared.shelf.Counted.{Counted}
use Rattle.za_records.specs.declared.shelf.Key.{Key}

-- what stands at each key from 0 on, and how many values fit
pub record Shelf (T : Type 0) : Type 0 where
  pub slots : List (Option (Counted T))
  pub capacity : ℕ

module _ {T : Type 0} where
  -- the value at the key with its count, if the key is live
  abbrev pub at : Shelf T → ℕ → Option (Counted T)
  at s key = slice_index_or s.slots key None

  -- how many keys are live
  abbrev pub live : Shelf T → ℕ
  live s = count_by is_some s.slots

  abbrev pub IsLive : Shelf T → ℕ → Type 0
  IsLive s key = IsSome (at s key)

  abbrev pub count_of : Option (Counted T) → ℕ
  count_of None = 0
  count_of (Some c) = c.count

  -- how many holders the key has: none where it is not live
  abbrev pub count : Shelf T → ℕ → ℕ
  count s key = count_of (at s key)

  -- whether a value stands there that passes the test
  abbrev pub passes : (T → Bool) → Option (Counted T) → Bool
  passes test None = false
  passes test (Some c) = test c.value

  -- this stands at the key, and at each other key what stood there
  pub record Changes (old new : Shelf T) (key : ℕ) (slot : Option (Counted T)) : Type 0 where
    pub here : at new key ≡ slot
    pub others : (other : ℕ) → other ≢ key → at new other ≡ at old other
    pub capacity : new.capacity ≡ old.capacity

  -- each count is above 0
  abbrev pub AreCounted : Shelf T → Type 0
  AreCounted s = (key : ℕ) (c : Counted T) → at s key ≡ Some c → 0 < c.count

  -- the least key whose value passes the test; none exactly where no value does
  abbrev pub IsLeastPassing : (T → Bool) → Shelf T → Option Key → Type 0
  IsLeastPassing test s None = (key : ℕ) → passes test (at s key) ≡ false
  IsLeastPassing test s (Some key) =
      (passes test (at s key.0) ≡ true) × ((less : ℕ) → less < key.0 → passes test (at s less) ≡ false)

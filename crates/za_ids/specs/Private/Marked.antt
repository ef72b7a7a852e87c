-- What marking a column of numbers has done.
use Rattle.std.specs.Prelude.{◌≡◌, ℕ, ◌+◌, ◌*◌, ◌<◌, ◌⊎◌, Bool, List, false, true, length, slice_index, slice_index_or}

-- those places among so many are marked whose numbers, counted from the first on, stand in the first rows of the
-- column, and those that were marked before
pub record HasMarked (ids : List ℕ) (n rows s first labels : ℕ) (old new : List Bool) : Type 0 where
  pub size : length new ≡ length old
  pub kept : (k : ℕ) → slice_index_or old k false ≡ true → slice_index_or new k false ≡ true
  pub marked : (i k : ℕ) → i < rows → k < labels → slice_index ids (i * n + s) ≡ first + k →
      slice_index_or new k false ≡ true
  pub sound : (k : ℕ) → k < labels → slice_index_or new k false ≡ true →
      (slice_index_or old k false ≡ true) ⊎ ((i : ℕ) × (i < rows) × (slice_index ids (i * n + s) ≡ first + k))

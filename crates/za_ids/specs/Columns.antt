-- Tables of numbers of events.
use Rattle.std.specs.Prelude.{◌≡◌, ℕ, ◌%◌, ◌^◌, ◌≤◌, List, IsTrue, slice_index}
use Rattle.za_alpha.specs.Words.{has}
use Rattle.za_order.specs.Labels.{number_of}

-- numbers with the letter stand in these of the n columns alone
abbrev pub AreInColumns : ℕ → ℕ → List ℕ → List ℕ → Type 0
AreInColumns n a columns ids =
    (j k : ℕ) → k ≤ n ^ 3 → slice_index ids j ≡ number_of n a k → IsTrue (has columns (j % n))

-- A source and a sink together.
use Rattle.std.specs.Prelude.{ℕ, List, Option}

-- a source and a sink at one moment: the bytes left and written, where they tell them, and their counts of faults
pub record Ends : Type 0 where
  pub left : Option (List ℕ)
  pub read_faults : ℕ
  pub written : Option (List ℕ)
  pub write_faults : ℕ

-- those with these bytes left and this count of faults, these bytes written and this count of faults
abbrev pub ends_of : Option (List ℕ) → ℕ → Option (List ℕ) → ℕ → Ends
ends_of left read_faults written write_faults =
    record { left = left; read_faults = read_faults; written = written; write_faults = write_faults }

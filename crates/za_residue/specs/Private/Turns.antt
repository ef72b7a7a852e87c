-- Functions of inputs that are taken in turn, each for a set of processes that is left out.
use Rattle.std.specs.Prelude.{◌≡◌, ℕ, ◌^◌, ◌<◌, ◌≤◌, Bool, ◌||◌, ◌&&◌, List, [], length, slice_index_or}
use Rattle.std.specs.List.{range_with_len, list_any}
use Rattle.za_alpha.specs.declared.procs.Procs.{Procs}
use Rattle.za_alpha.specs.Words.{has}
use Rattle.za_alpha.specs.Procs.{members, no_process}
use Rattle.za_residue.specs.declared.masks.Masks.{Masks}
use Rattle.za_residue.specs.Functions.{Functions, value_at}
use Rattle.za_residue.specs.Masks.{is_earlier, is_under}

-- no functions
abbrev pub no_functions : Functions
no_functions = record { processes = 0; states = 0; values = [] }

-- the function of the i-th input for its omitted set
abbrev pub turn_of : List Functions → List Procs → ℕ → ℕ → ℕ
turn_of inputs omitted i q = value_at (slice_index_or inputs i no_functions) (slice_index_or omitted i no_process).0 q

-- the functions can be taken in turn from q: they are on the same states, q among them, and have the omitted sets
pub record CanBeTaken (inputs : List Functions) (omitted : List Procs) (q : ℕ) : Type 0 where
  pub states : ℕ
  pub start : q < states
  pub same : (i : ℕ) → i < length inputs → (slice_index_or inputs i no_functions).states ≡ states
  pub sets : (i : ℕ) → i < length inputs →
      (slice_index_or omitted i no_process).0 < 2 ^ (slice_index_or inputs i no_functions).processes
  pub room : length inputs ≤ length omitted

-- whether s is to be left out of the input i for the set
abbrev pub is_omitted : Masks → ℕ → (ℕ → Bool) → ℕ → ℕ → Bool
is_omitted masks processes set i s =
    is_earlier masks i s || list_any (λ r. set r && is_under masks i r s) (range_with_len 0 processes)

-- the sets are those to be left out of the first inputs for the set
pub record AreOmitted (masks : Masks) (processes : ℕ) (set : ℕ → Bool) (inputs : ℕ) (sets : List Procs) : Type 0 where
  pub room : inputs ≤ length sets
  pub small : (i : ℕ) → i < inputs → (slice_index_or sets i no_process).0 < 2 ^ 16
  pub members : (i s : ℕ) → i < inputs →
      has (members (slice_index_or sets i no_process)) s ≡ is_omitted masks processes set i s

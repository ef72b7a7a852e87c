-- Functions on the states of an automaton, one for each set of processes.
use Rattle.std.specs.Prelude.{ℕ, ◌+◌, ◌*◌, ◌/◌, ◌%◌, ◌^◌, ◌==◌, Bool, List, map, slice_index}
use Rattle.std.specs.List.{range_with_len}
use Rattle.std.specs.Int.{bit_at}

-- what contracts see of them: entry number * states + q says where the function of the set with that number leads
-- from the state q
pub record Functions : Type 0 where
  pub processes : ℕ
  pub states : ℕ
  pub values : List ℕ

-- the functions by a rule for the number of a set and a state
abbrev pub functions_by : ℕ → ℕ → (ℕ → ℕ → ℕ) → Functions
functions_by processes states rule = record {
  processes = processes;
  states = states;
  values = map (λ i. rule (i / states) (i % states)) (range_with_len 0 (2 ^ processes * states));
}

-- the identity for each set
abbrev pub identities : ℕ → ℕ → Functions
identities processes states = functions_by processes states (λ number q. q)

-- where the function of the set with the number leads from q
abbrev pub value_at : Functions → ℕ → ℕ → ℕ
value_at f number q = slice_index f.values (number * f.states + q)

-- whether the process is in the set with the number: the sum of 2 ^ y over its members
abbrev pub in_set : ℕ → ℕ → Bool
in_set number p = bit_at number p == 1

-- What the fields of a process's residues are.
use Rattle.std.specs.Prelude.{◌≡◌, ◌*◌, ◌^◌, ◌<◌, ◌≤◌, All, length}
use Rattle.za_residue.specs.declared.residues.Residues.TheInside.{Inside}
use Rattle.za_residue.specs.Functions.{Functions}

abbrev pub functions_in : Inside → Functions
functions_in inside = record { processes = inside.processes; states = inside.states; values = inside.values.items }

-- there are few processes and states, a function for each set, and each leads to states
pub record AreOnStates (f : Functions) : Type 0 where
  pub few_processes : f.processes ≤ 16
  pub few_states : f.states ≤ 256
  pub values_length : length f.values ≡ 2 ^ f.processes * f.states
  pub values_below : All (λ value. value < f.states) f.values

abbrev pub AreOnStatesInside : Inside → Type 0
AreOnStatesInside inside = AreOnStates (functions_in inside)

-- What the fields of a local state and of a bench are.
use Rattle.std.specs.Prelude.{◌≡◌, ◌≤◌, All, length, take}
use Rattle.za_gossip.specs.Rows.{Rows}
use Rattle.za_residue.specs.Functions.{Functions}
use Rattle.za_local.specs.declared.local.Local.TheInside as Local
use Rattle.za_local.specs.declared.bench.Bench.TheInside as Bench
use Rattle.za_local.specs.Locals.{LocalState}
use Rattle.za_local.specs.Benches.{LocalStates, paired}

abbrev pub local_in : Local.Inside → LocalState
local_in inside = record { gossip = inside.gossip; residues = inside.residues }

-- both are for as many processes
abbrev pub IsWholeInside : Local.Inside → Type 0
IsWholeInside inside = length inside.gossip.primary ≡ inside.residues.processes

abbrev pub bench_in : Bench.Inside → LocalStates
bench_in inside = record {
  processes = inside.processes;
  states = inside.states;
  locals = paired (take inside.len inside.gossips.items) (take inside.len inside.residues.items);
}

-- there is room for a local state of each process, all of one shape
pub record HasRoomInside (inside : Bench.Inside) : Type 0 where
  pub gossips : length inside.gossips.items ≡ inside.processes
  pub residues : length inside.residues.items ≡ inside.processes
  pub few : inside.len ≤ inside.processes
  pub rows : All (λ (rows : Rows). length rows.primary ≡ inside.processes) inside.gossips.items
  pub processes : All (λ (f : Functions). f.processes ≡ inside.processes) inside.residues.items
  pub states : All (λ (f : Functions). f.states ≡ inside.states) inside.residues.items

-- What the fields of a circle mean.
use Rattle.std.specs.Prelude.{◌≡◌, ℕ, ◌≤◌, List, All, length}
use Rattle.za_alpha.specs.Limits.{most_processes}
use Rattle.za_gossip.specs.Rows.{Rows}
use Rattle.za_payload.specs.declared.circle.Circle.TheInside.{Inside}
use Rattle.za_payload.specs.Circles.{CircleState}

abbrev pub circle_in : Inside → CircleState
circle_in inside = record { processes = inside.processes; rows = inside.rows.items; known = inside.known.items }

-- each has an entry for each of so many processes
abbrev pub AreFor : ℕ → List Rows → Type 0
AreFor processes rows = All (λ (r : Rows). length r.primary ≡ processes) rows

-- all parts are for as many processes
pub record HasCircleRoom (inside : Inside) : Type 0 where
  pub few : inside.processes ≤ most_processes
  pub rows : length inside.rows.items ≡ inside.processes
  pub rows_for : AreFor inside.processes inside.rows.items
  pub known : length inside.known.items ≡ inside.processes
  pub inputs : length inside.inputs.items ≡ inside.processes
  pub inputs_for : AreFor inside.processes inside.inputs.items
  pub next_for : length inside.next.primary ≡ inside.processes

-- What holds of each state that is reached, and how many events lead to it.
use Rattle.std.specs.Prelude.{◌≡◌, ℕ, zero, suc, ◌+◌, ◌<◌, true, length, cond}
use Rattle.za_alpha.specs.Words.{projection}
use Rattle.za_script.specs.Scripts.{Fits}
use Rattle.za_machine.specs.Machine.{Machine, State, is_in, fired_by}

-- what is known of each state that is reached
pub record IsSound (m : Machine) (c : State) : Type 0 where
  pub arrived_size : length c.arrived ≡ m.processes
  pub ended_size : length c.ended ≡ m.processes
  pub fits : Fits m.loc m.letters m.scripts c.journal
  pub waits : (p : ℕ) → is_in c.arrived p ≡ true → fired_by m c.journal p < length (m.scripts p)
  pub done : (p : ℕ) → is_in c.ended p ≡ true → projection m.loc p c.journal ≡ m.scripts p

abbrev pub sum_to : (ℕ → ℕ) → ℕ → ℕ
sum_to f zero = 0
sum_to f (suc n) = sum_to f n + f n

-- how many events of p have led to the state, but for those that it fired
abbrev pub share : Machine → State → ℕ → ℕ
share m c p = fired_by m c.journal p + cond (is_in c.arrived p) 1 0 + cond (is_in c.ended p) 1 0

-- how many events have led to the state
abbrev pub events_of : Machine → State → ℕ
events_of m c = length c.journal + sum_to (share m c) m.processes

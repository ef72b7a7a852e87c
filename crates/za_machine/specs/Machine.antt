-- The core machine: a journal, who has arrived and who has ended.
use Rattle.std.specs.Prelude.{◌≡◌, ℕ, suc, ◌<◌, ◌≤◌, Bool, true, false, not, ◌&&◌, ◌||◌}
use Rattle.std.specs.Prelude.{List, [], ◌∷◌, ◌++◌, length, replicate, slice_index_or, slice_set, Option}
use Rattle.std.specs.List.{list_all, slice_get}
use Rattle.za_alpha.specs.Words.{has, projection, IsAlphabet}
use Rattle.za_script.specs.Scripts.{comes_next}

-- letters with their processes, and the script of each process
pub record Machine : Type 0 where
  pub letters : ℕ
  pub processes : ℕ
  pub loc : ℕ → List ℕ
  pub scripts : ℕ → List ℕ

-- each letter has processes, and nobody else has a script
pub record IsMachine (m : Machine) : Type 0 where
  pub alphabet : IsAlphabet m.loc m.letters m.processes
  pub beyond : (p : ℕ) → m.processes ≤ p → m.scripts p ≡ []

-- a state of the machine: the letters that were fired, who has arrived and who has ended
pub record State : Type 0 where
  pub journal : List ℕ
  pub arrived : List Bool
  pub ended : List Bool

-- whether the process is among those
abbrev pub is_in : List Bool → ℕ → Bool
is_in bs p = slice_index_or bs p false

-- how many letters of the word are those of p
abbrev pub fired_by : Machine → List ℕ → ℕ → ℕ
fired_by m w p = length (projection m.loc p w)

-- the letter of the process that is to come after the word
abbrev pub next : Machine → List ℕ → ℕ → Option ℕ
next m w p = slice_get (m.scripts p) (fired_by m w p)

-- whether each process of the letter has arrived, and the letter is its next
abbrev pub is_complete : Machine → State → ℕ → Bool
is_complete m c a =
    list_all (λ p. is_in c.arrived p && comes_next (m.scripts p) (fired_by m c.journal p) a) (m.loc a)

-- no letter is complete, and each process has arrived or ended
pub record IsOver (m : Machine) (c : State) : Type 0 where
  pub quiet : (a : ℕ) → a < m.letters → is_complete m c a ≡ false
  pub each : (p : ℕ) → p < m.processes → (is_in c.arrived p || is_in c.ended p) ≡ true

abbrev pub initial : Machine → State
initial m = record {
  journal = [];
  arrived = replicate m.processes false;
  ended = replicate m.processes false;
}

-- who has arrived, but for these processes. The first of the list is the process k
abbrev pub without : List ℕ → ℕ → List Bool → List Bool
without ps k [] = []
without ps k (b ∷ bs) = (b && not (has ps k)) ∷ without ps (suc k) bs

-- a process arrives, a letter is fired, a process ends
pub data Event : Type 0 where
  Arrive : ℕ → Event
  Fire : ℕ → Event
  End : ℕ → Event

-- the process joins those that have arrived
abbrev pub arrive : ℕ → State → State
arrive p c = record c { arrived = slice_set c.arrived p true }

-- the letter is appended to the journal, and its processes leave those that have arrived
abbrev pub fire : (ℕ → List ℕ) → ℕ → State → State
fire loc a c = record c { journal = c.journal ++ a ∷ []; arrived = without (loc a) 0 c.arrived }

-- the process joins those that have ended
abbrev pub end_at : ℕ → State → State
end_at p c = record c { ended = slice_set c.ended p true }

-- the state after an event
abbrev pub after_event : Machine → State → Event → State
after_event m c (Arrive p) = arrive p c
after_event m c (Fire a) = fire m.loc a c
after_event m c (End p) = end_at p c

-- a process that has not arrived may arrive where a letter of its script is left, a complete letter may be fired, and
-- a process that has not ended may end where its script is used up
abbrev pub IsAllowed : Machine → State → Event → Type 0
IsAllowed m c (Arrive p) =
    (p < m.processes) × (is_in c.arrived p ≡ false) × (fired_by m c.journal p < length (m.scripts p))
IsAllowed m c (Fire a) = (a < m.letters) × (is_complete m c a ≡ true)
IsAllowed m c (End p) =
    (p < m.processes) × (is_in c.ended p ≡ false) × (projection m.loc p c.journal ≡ m.scripts p)

-- the state after a list of events
abbrev pub run : Machine → State → List Event → State
run m c [] = c
run m c (e ∷ es) = run m (after_event m c e) es

-- each event is allowed after those before it
abbrev pub AreAllowed : Machine → State → List Event → Type 0
AreAllowed m c [] = Unit {0}
AreAllowed m c (e ∷ es) = IsAllowed m c e × AreAllowed m (after_event m c e) es

-- a list of allowed events leads to the state
pub record IsMachineState (m : Machine) (c : State) : Type 0 where
  pub events : List Event
  pub allowed : AreAllowed m (initial m) events
  pub there : run m (initial m) events ≡ c

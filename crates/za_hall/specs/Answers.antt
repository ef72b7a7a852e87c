-- What the steps of a desk do and answer, by the view before and the view after.
use Rattle.std.specs.Prelude.{◌≡◌, ◌≢◌, ◌⊎◌, ℕ, ◌+◌, ◌<◌, Bool, true, false, List, [], ◌∷◌, ◌++◌, length, Option}
use Rattle.std.specs.Prelude.{Some, None}
use Rattle.za_alpha.specs.declared.procs.Procs.{Procs}
use Rattle.za_alpha.specs.Procs.{members}
use Rattle.za_machine.specs.Machine.{is_in, next, IsMachineState, IsOver}
use Rattle.za_machine.specs.Hands.{hand}
use Rattle.za_table.specs.Tables.{TableState}
use Rattle.za_table.specs.Answers.{AreMissing}
use Rattle.za_hall.specs.declared.turn.Turn.{Turn}
use Rattle.za_hall.specs.declared.turn.Turn.TheVariants.{Fired, Ended, Waiting, Busy, Over}
use Rattle.za_hall.specs.Places.{places}
use Rattle.za_hall.specs.Views.{View, Note}
use Rattle.za_hall.specs.Own.{machine, Own}
use Rattle.za_hall.specs.Steps.{blank_note}

-- a desk has one number: what its view notes of it
abbrev pub first_note : List Note → Note
first_note [] = blank_note 0
first_note (n ∷ ns) = n

abbrev pub note_of : View → Note
note_of v = first_note v.notes

-- the process waits at the letter: just these processes of it are missing; and where none is, another process has
-- the letter in hand, which is then named
pub record Waits (p a : ℕ) (missing : Procs) (by : Option ℕ) (t : TableState) : Type 0 where
  pub arrived : is_in t.state.arrived p ≡ true
  pub next_is : next (machine t) t.state.journal p ≡ Some a
  pub missing_is : AreMissing (machine t) t.state a missing
  pub by_is : by ≡ hand t.hands a
  pub other : members missing ≡ [] → (q : ℕ) × (by ≡ Some q) × (q ≢ p)
  pub none : (q : ℕ) → by ≡ Some q → members missing ≡ []

-- the last event of the process is at this place, and so many of its events came before it
abbrev pub IsLast : ℕ → ℕ → ℕ → TableState → Type 0
IsLast p told at t =
    (before : List ℕ) × (places (machine t) p t.state.journal ≡ before ++ at ∷ []) × (length before ≡ told)

-- the places that were told of, with the one that the answer tells of
abbrev pub with_fired : Option Turn → List ℕ → List ℕ
with_fired (Some (Fired at)) fired = fired ++ at ∷ []
with_fired _ fired = fired

-- what one hold of the process did: it took a table in a state of the machine, made its own events, and its note
-- says all of the table that it gave back
pub record Held (p : ℕ) (w : View) : Type 0 where
  pub reached : IsMachineState (machine w.took) w.took.state
  pub own : Own p w.took w.gave
  pub fired : (note_of w).fired ≡ places (machine w.gave) p w.gave.state.journal
  pub ended : (note_of w).ended ≡ is_in w.gave.state.ended p

-- the try held the turn, and gave back a table in which the process has ended
abbrev pub GaveEnded : ℕ → View → Type 0
GaveEnded p w = (w.found ≡ 0) × (is_in w.gave.state.ended p ≡ true)

-- the try held the turn, and gave back a table in which the last event of the process is at this place and was not
-- told of
abbrev pub GaveFired : ℕ → View → ℕ → View → Type 0
GaveFired p v at w = (w.found ≡ 0) × IsLast p (length (note_of v).fired) at w.gave

-- why a try from the view v to the view w answers so; with no answer it took a letter up
abbrev pub Says : ℕ → Option Turn → View → View → Type 0
Says p None v w =
    (w.found ≡ 0) × (w.over ≡ false) × ((note_of v).hand ≡ None)
    × ((a : ℕ) × ((note_of w).hand ≡ Some a) × (hand w.gave.hands a ≡ Some p))
Says p (Some (Fired at)) v w = GaveFired p v at w
Says p (Some Ended) v w = GaveEnded p w
Says p (Some (Waiting a missing by)) v w = (w.found ≡ 0) × Waits p a.0 missing by w.gave
Says p (Some Busy) v w = w.found ≡ 1
Says p (Some Over) v w =
    (w.over ≡ true) × ((w.found ≡ 2) ⊎ ((w.found ≡ 0) × IsOver (machine w.gave) w.gave.state))

-- between the views the process has neither arrived nor ended
abbrev pub Stays : View → View → Type 0
Stays v w = ((note_of w).arrivals ≡ (note_of v).arrivals) × ((note_of w).ended ≡ (note_of v).ended)

-- it has arrived once and not ended
abbrev pub ArrivesOnce : View → View → Type 0
ArrivesOnce v w = ((note_of w).arrivals ≡ (note_of v).arrivals + 1) × ((note_of w).ended ≡ (note_of v).ended)

-- it has ended and not arrived
abbrev pub EndsOnce : View → View → Type 0
EndsOnce v w =
    ((note_of w).arrivals ≡ (note_of v).arrivals) × ((note_of v).ended ≡ false) × ((note_of w).ended ≡ true)

-- it has arrived, and the firing was not told of yet
abbrev pub IsPending : View → Type 0
IsPending v = (note_of v).arrivals ≡ length (note_of v).fired + 1

-- one try of the process p, from the view v to the view w
pub record Try (p : ℕ) (v : View) (answer : Option Turn) (w : View) : Type 0 where
  pub given : w.given ≡ v.given
  pub tries : w.tries ≡ v.tries + 1
  pub found : w.found < 3
  pub free : w.holds ≡ false
  pub held : w.found ≡ 0 → Held p w
  pub refused : w.found ≢ 0 → w.notes ≡ v.notes
  pub fired : (note_of w).fired ≡ with_fired answer (note_of v).fired
  pub says : Says p answer v w
  pub ended : GaveEnded p w → answer ≡ Some Ended
  pub fires : (at : ℕ) → GaveFired p v at w → answer ≡ Some (Fired at)
  pub busy : w.found ≡ 1 → answer ≡ Some Busy
  pub moves : Stays v w ⊎ ((ArrivesOnce v w × IsPending w) ⊎ (EndsOnce v w × (answer ≡ Some Ended)))
  pub waits : IsPending v → Stays v w

-- one try, or two of which the first took a letter up
abbrev pub Call : ℕ → View → Turn → View → Type 0
Call p v turn w = Try p v (Some turn) w ⊎ ((u : View) × Try p v None u × Try p u (Some turn) w)

-- what a waiting step answers, for a process that had or had not ended before: neither Busy nor Waiting, and Ended
-- once
abbrev pub EndsStep : Bool → Turn → Type 0
EndsStep had_ended (Fired at) = Unit {0}
EndsStep had_ended Ended = had_ended ≡ false
EndsStep had_ended (Waiting a missing by) = ⊥
EndsStep had_ended Busy = ⊥
EndsStep had_ended Over = Unit {0}

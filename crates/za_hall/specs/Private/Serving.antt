-- What one hold makes of the table, and what a desk keeps between two calls.
use Rattle.std.specs.Prelude.{◌≡◌, ◌⊎◌, ℕ, ◌∷◌, [], List, Bool, true, false, cond, map, length, min, Option, Some, None}
use Rattle.za_alpha.specs.declared.word.Letter.{Letter}
use Rattle.za_dfa.specs.Tables.{CompleteDfa}
use Rattle.za_local.specs.Benches.{LocalStates}
use Rattle.za_machine.specs.Machine.{is_in, fired_by}
use Rattle.za_machine.specs.Hands.{hand}
use Rattle.za_table.specs.Tables.{TableState}
use Rattle.za_hall.specs.declared.serving.Served.{Served}
use Rattle.za_hall.specs.declared.serving.Served.TheVariants as served
use Rattle.za_hall.specs.declared.turn.Turn.{Turn}
use Rattle.za_hall.specs.declared.turn.Turn.TheVariants.{Fired, Ended, Waiting, Over}
use Rattle.za_hall.specs.Views.{View, Note}
use Rattle.za_hall.specs.Own.{machine}
use Rattle.za_hall.specs.Rule.{Hand}
use Rattle.za_hall.specs.Halls.{DeskState}
use Rattle.za_hall.specs.Answers.{GaveFired, Waits, IsLast, first_note, note_of, Stays, ArrivesOnce, IsPending}

-- the bench is for the automaton
abbrev pub FitsDfa : CompleteDfa → LocalStates → Type 0
FitsDfa d bench = (bench.processes ≡ d.alphabet.processes) × (bench.states ≡ d.states)

-- what one hold tells of the table after it, of a process that has told of so many of its events
abbrev pub TellsServed : Served → ℕ → ℕ → TableState → Type 0
TellsServed (served.Fired k) told p t =
    IsLast p told k t × (is_in t.state.arrived p ≡ false) × (is_in t.state.ended p ≡ false)
TellsServed (served.Waiting a missing by) told p t =
    (fired_by (machine t) t.state.journal p ≡ told) × Waits p a.0 missing by t
TellsServed served.Ended told p t = (fired_by (machine t) t.state.journal p ≡ told) × (is_in t.state.ended p ≡ true)
TellsServed (served.TookUp a) told p t = (fired_by (machine t) t.state.journal p ≡ told) × (hand t.hands a.0 ≡ Some p)

-- the letter in hand after the hold
abbrev pub letter_after : Served → Option Letter
letter_after (served.Fired k) = None
letter_after (served.Waiting a missing by) = None
letter_after served.Ended = None
letter_after (served.TookUp a) = Some a

-- what is answered, if the table is over or not. None: a letter was taken up
abbrev pub answered : Served → Bool → Option Turn
answered (served.Fired k) over = Some (Fired k)
answered (served.Waiting a missing by) over = Some (cond over Over (Waiting a missing by))
answered served.Ended over = Some Ended
answered (served.TookUp a) over = None

abbrev pub letter_number : Option Letter → Option ℕ
letter_number None = None
letter_number (Some a) = Some a.0

abbrev pub note_number : Note → ℕ
note_number n = n.number

-- a desk between two calls: it has one number, does not hold the turn and has no slot out
abbrev pub Rests : ℕ → ℕ → Option ℕ → Bool → Bool → Hand → Type 0
Rests process told letter over ended me =
    (map note_number me.0.notes ≡ process ∷ []) × (length (note_of me.0).fired ≡ told) × ((note_of me.0).hand ≡ letter)
    × (me.0.holds ≡ false) × (me.0.over ≡ over) × (me.1 ≡ []) × ((note_of me.0).ended ≡ ended)

-- since the view v0 the process has neither arrived nor ended, or it has arrived once and waits
abbrev pub SoFar : View → View → Type 0
SoFar v0 v = Stays v0 v ⊎ (ArrivesOnce v0 v × IsPending v)

-- a step that goes on has done nothing yet, or its last hold gave back no event that was not told of
abbrev pub Waited : DeskState → DeskState → Type 0
Waited d e = (e ≡ d) ⊎ ((d.view.over ≡ false) × ((at : ℕ) → GaveFired d.number d.view at e.view → ⊥))

-- of a desk's one note
abbrev pub first_fired : List Note → List ℕ
first_fired ns = (first_note ns).fired

abbrev pub first_hand : List Note → Option ℕ
first_hand ns = (first_note ns).hand

abbrev pub first_arrivals : List Note → ℕ
first_arrivals ns = (first_note ns).arrivals

abbrev pub first_ended : List Note → Bool
first_ended ns = (first_note ns).ended

abbrev pub lower : Option ℕ → ℕ → ℕ
lower None q = q
lower (Some p) q = min p q

-- the least process that waits, with one more desk
abbrev pub lesser_of : Option ℕ → Bool → ℕ → Option ℕ
lesser_of least over q = cond over least (Some (lower least q))

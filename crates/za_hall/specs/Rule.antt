-- The rule of a hall: what holds of its word, of the table's place and of all views between any two steps. The word
-- is 0 where the turn is free, 1 where a seat holds it, and 2 where all is over.
use Rattle.std.specs.Prelude.{◌≡◌, ◌≢◌, ◌⊎◌, ℕ, ◌+◌, ◌<◌, true, false, cond, List, [], ◌∷◌, ◌++◌}
use Rattle.std.specs.Prelude.{length, slice_index, Option, Some}
use Rattle.std.specs.List.{slice_get}
use mathlib.Core.Option.{some, none}
use lib.ListN.{get_elem?}
use Rattle.atomic_table.specs.Table.{State, Me}
use Rattle.za_alpha.specs.Words.{has, IsAlphabet}
use Rattle.za_machine.specs.Machine.{Machine, is_in, fired_by, is_complete, IsOver, IsMachineState}
use Rattle.za_machine.specs.Hands.{hand, AreInHand}
use Rattle.za_table.specs.Tables.{Given, TableState, machine_of}
use Rattle.za_hall.specs.Places.{places}
use Rattle.za_hall.specs.Views.{View, Note}
use Rattle.za_hall.specs.Own.{machine}

-- where the table lies
abbrev pub Slot : Type 0
Slot = Option TableState

-- a seat's view, and the slots that it has out
abbrev pub Hand : Type 0
Hand = Me Slot View

-- what holds of the machine of each job: letters have processes, and the letters of a script are those of its process
pub record IsFit (m : Machine) : Type 0 where
  pub alphabet : IsAlphabet m.loc m.letters m.processes
  pub own : (p k a : ℕ) → slice_get (m.scripts p) k ≡ Some a → (a < m.letters) × (has (m.loc a) p ≡ true)

-- every complete letter is in hand of one of its processes, and no other letter is in hand
pub record IsCovered (t : TableState) : Type 0 where
  pub in_hand : AreInHand (machine t) t.state t.hands
  pub taken :
      (a : ℕ) → a < (machine t).letters → is_complete (machine t) t.state a ≡ true → (p : ℕ) × (hand t.hands a ≡ Some p)

-- how often the process has arrived
abbrev pub arrivals_of : TableState → ℕ → ℕ
arrivals_of t p = fired_by (machine t) t.state.journal p + cond (is_in t.state.arrived p) 1 0

-- the events of the process were all told of; or all but the last one, and then it has neither arrived again nor
-- ended
abbrev pub FiredOk : TableState → ℕ → List ℕ → Type 0
FiredOk t p fired =
    (fired ≡ places (machine t) p t.state.journal)
    ⊎ ((is_in t.state.arrived p ≡ false) × (is_in t.state.ended p ≡ false)
    × ((at : ℕ) × (places (machine t) p t.state.journal ≡ fired ++ at ∷ [])))

-- what a note says of its process is so at the table
pub record NoteOk (t : TableState) (n : Note) : Type 0 where
  pub inside : n.number < (machine t).processes
  pub arrivals : n.arrivals ≡ arrivals_of t n.number
  pub ended : n.ended ≡ is_in t.state.ended n.number
  pub fired : FiredOk t n.number n.fired
  pub has : (a : ℕ) → hand t.hands a ≡ Some n.number → n.hand ≡ Some a
  pub held : (a : ℕ) → n.hand ≡ Some a → hand t.hands a ≡ Some n.number

-- the fact holds of each note
abbrev pub EachNote : (Note → Type 0) → List Note → Type 0
EachNote P [] = Unit {0}
EachNote P (n ∷ ns) = P n × EachNote P ns

-- no two notes of a list have one number
abbrev pub Apart : List Note → Type 0
Apart [] = Unit {0}
Apart (n ∷ ns) = EachNote (λ m. n.number ≢ m.number) ns × Apart ns

-- what holds of the view v of the seat j, where the table is t, the word is w, the seat `turn` holds the turn if
-- one does, and the number k is that of the seat `owner k`. A seat with no number is spent
pub record Knows (job : Given) (t : TableState) (w turn : ℕ) (owner : ℕ → ℕ) (j : ℕ) (v : View) : Type 0 where
  pub job_is : (v.notes ≡ []) ⊎ (v.given ≡ job)
  pub holds : v.holds ≡ true → (w ≡ 1) × (j ≡ turn) × (v.took ≡ t)
  pub notes : EachNote (NoteOk t) v.notes
  pub owned : EachNote (λ n. owner n.number ≡ j) v.notes
  pub apart : Apart v.notes
  pub over : v.over ≡ true → w ≡ 2

-- the rule, for the job of the hall. `table` is the table at home, or the one that the seat which holds the turn
-- has taken
pub record Kept (job : Given) (s : State Slot View) : Type 0 where
  pub table : TableState
  pub word : ℕ
  pub turn : ℕ
  pub owner : ℕ → ℕ
  pub word_is : slice_index s.words 0 ≡ word
  pub one_word : length s.words ≡ 1
  pub one_slot : length s.homes ≡ 1
  pub small : word < 3
  pub home : word ≢ 1 → get_elem? s.homes 0 ≡ some (some (Some table))
  pub out : word ≡ 1 → get_elem? s.homes 0 ≡ some none
  pub holder :
      word ≡ 1 →
      (v : View) × (get_elem? s.views turn ≡ some v) × (v.holds ≡ true)
      × ((n : Note) × ((ns : List Note) × (v.notes ≡ n ∷ ns)))
  pub of_job : table.given ≡ job
  pub fit : IsFit (machine_of job)
  pub reached : IsMachineState (machine table) table.state
  pub covered : IsCovered table
  pub is_over : word ≡ 2 → IsOver (machine table) table.state
  pub not_over : word ≡ 0 → ¬ IsOver (machine table) table.state
  pub each : (j : ℕ) (v : View) → get_elem? s.views j ≡ some v → Knows job table word turn owner j v

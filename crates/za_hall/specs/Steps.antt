-- What each atomic step does to the seat that makes it: a try to take the table, giving it back, and cutting a seat
-- in two or putting two together.
use Rattle.std.specs.Prelude.{◌≡◌, ℕ, zero, suc, ◌+◌, ◌<◌, true, false, cond, eqb}
use Rattle.std.specs.Prelude.{List, [], ◌∷◌, ◌++◌, map, Option, Some, None}
use Rattle.za_shared.specs.Records.{Records}
use Rattle.za_machine.specs.Machine.{is_in, IsOver, IsMachineState}
use Rattle.za_table.specs.Tables.{Given, TableState}
use Rattle.za_hall.specs.Places.{places}
use Rattle.za_hall.specs.Views.{View, Note}
use Rattle.za_hall.specs.Own.{machine}
use Rattle.za_hall.specs.Rule.{Slot, Hand, NoteOk, EachNote, IsFit, IsCovered, arrivals_of}

-- what is noted of a process that has done nothing
abbrev pub blank_note : ℕ → Note
blank_note k = record { number = k; arrivals = 0; ended = false; fired = []; hand = None }

-- the notes of n processes, the first of which is k
abbrev pub blank_notes : ℕ → ℕ → List Note
blank_notes k zero = []
blank_notes k (suc n) = blank_note k ∷ blank_notes (suc k) n

-- the view of the first seat of a hall for this table
abbrev pub first_view : TableState → View
first_view t = record {
  given = t.given;
  notes = blank_notes 0 (machine t).processes;
  tries = 0;
  found = 0;
  holds = false;
  took = t;
  gave = t;
  over = false;
}

-- the view after a try that found n, and took t where n is 0
abbrev pub tried : ℕ → TableState → View → View
tried n t v =
    record v { tries = v.tries + 1; found = n; holds = eqb n 0; took = cond (eqb n 0) t v.took; over = eqb n 2 }

-- the slots that it then has out
abbrev pub carries : ℕ → TableState → List (ℕ × Slot)
carries n t = cond (eqb n 0) ((0, Some t) ∷ []) []

-- what is known of a table that was taken
pub record Taken (t : TableState) (v : View) : Type 0 where
  pub of_job : t.given ≡ v.given
  pub fit : IsFit (machine t)
  pub reached : IsMachineState (machine t) t.state
  pub covered : IsCovered t
  pub not_over : ¬ IsOver (machine t) t.state
  pub notes : EachNote (NoteOk t) v.notes

-- the seat after a try that found n
abbrev pub TookHand : Hand → ℕ → Hand → Type 0
TookHand m n m' = (n < 3) × ((t : TableState) × (m' ≡ (tried n t m.0, carries n t)) × (n ≡ 0 → Taken t m.0))

-- the table that a seat has out
abbrev pub held : List (ℕ × Slot) → TableState → TableState
held [] d = d
held ((k, Some t) ∷ _) d = t
held ((k, None) ∷ _) d = d

-- the first letter that the process has in hand. The first entry of the list is that of the letter k
abbrev pub hand_from : ℕ → List (Option ℕ) → ℕ → Option ℕ
hand_from k [] p = None
hand_from k (None ∷ hs) p = hand_from (suc k) hs p
hand_from k (Some q ∷ hs) p = cond (eqb q p) (Some k) (hand_from (suc k) hs p)

-- the letter that the process has in hand
abbrev pub hand_of : TableState → ℕ → Option ℕ
hand_of t p = hand_from 0 t.hands p

-- a note once the table is given back: it says all of its process at the table, and each firing is told of
abbrev pub noted : TableState → Note → Note
noted t n = record {
  number = n.number;
  arrivals = arrivals_of t n.number;
  ended = is_in t.state.ended n.number;
  fired = places (machine t) n.number t.state.journal;
  hand = hand_of t n.number;
}

-- the view after the table was given back with the word n
abbrev pub given_back : ℕ → TableState → View → View
given_back n t v = record v { notes = map (noted t) v.notes; holds = false; gave = t; over = eqb n 2 }

-- the seat after that
abbrev pub Gave : Hand → ℕ → Hand → Type 0
Gave m n m' = m' ≡ (given_back n (held m.1 m.0.took) m.0, [])

-- the notes but for the first
abbrev pub other_notes : List Note → List Note
other_notes [] = []
other_notes (n ∷ ns) = ns

-- the first alone
abbrev pub head : List Note → List Note
head [] = []
head (n ∷ ns) = n ∷ []

-- where a seat is cut in two, the new one gets the first number, and this one keeps the others
abbrev pub left_of : View → View
left_of v = record v { notes = other_notes v.notes }

abbrev pub right_of : View → View
right_of v = record v { notes = head v.notes; holds = false }

-- where two seats are put together, one gets all numbers, and has seen that all is over if either had
abbrev pub both_of : View → View → View
both_of v w = record v { notes = v.notes ++ w.notes; over = cond v.over true w.over }

-- the other is spent: it has no number
abbrev pub no_job : Given
no_job = record {
  dfa = record {
    alphabet = record { processes = 0; letters = [] };
    states = 0;
    start = 0;
    accepting = [];
    targets = [];
  };
  scripts = [];
}

abbrev pub no_records : Records
no_records = record {
  dfa = no_job.dfa;
  cache = 0;
  shelf = record { slots = []; capacity = 0 };
  own = [];
  keys = [];
  lines = [];
  spares = [];
}

abbrev pub spent_view : View
spent_view = first_view record {
  given = no_job;
  state = record { journal = []; arrived = []; ended = [] };
  hands = [];
  shared = no_records;
}

-- What holds of every state that allowed events lead to.
use Rattle.std.specs.Prelude.{◌≡◌, ℕ, ◌+◌, ◌*◌, ◌<◌, ◌≤◌, ◌↔◌, List, ◌++◌, length, true, Option, None, Some}
use Rattle.za_alpha.specs.Words.{projection, AreEquivalent}
use Rattle.za_dfa.specs.Automata.{Automaton, IsTraceClosed}
use Rattle.za_script.specs.Scripts.{total, weave, weave_from, Weaves, Fits, FitsMaximally}
use Rattle.za_script.specs.Answer.{IsAnswer}
use Rattle.za_script.specs.Rests.{rests}
use Rattle.za_machine.specs.Machine.{Machine, IsMachine, State, Event, Fire, initial, after_event, IsAllowed}
use Rattle.za_machine.specs.Machine.{AreAllowed, IsMachineState, IsOver, is_in, next, is_complete}
use Rattle.za_machine.specs.Hands.{hand, no_hands, AreInHand, Move, MayMove, after_move, hands_after}
use Rattle.za_machine.specs.Answer.{answer_at}

-- the journal fits the scripts
abbrev pub JournalsFit : Type 0
JournalsFit = (m : Machine) (c : State) → IsMachineState m c → Fits m.loc m.letters m.scripts c.journal

-- nobody has both arrived and ended
abbrev pub ArrivedAreNotEnded : Type 0
ArrivedAreNotEnded =
    (m : Machine) (c : State) (p : ℕ) → IsMachineState m c → is_in c.arrived p ≡ true → is_in c.ended p ≡ true → ⊥

-- whoever has ended has its script in the journal
abbrev pub EndedAreDone : Type 0
EndedAreDone =
    (m : Machine) (c : State) (p : ℕ) → IsMachineState m c → is_in c.ended p ≡ true →
    projection m.loc p c.journal ≡ m.scripts p

-- no letter is next exactly if the script is used up
abbrev pub NoneIsNextAtTheEnd : Type 0
NoneIsNextAtTheEnd =
    (m : Machine) (c : State) (p : ℕ) → IsMachineState m c →
    ((next m c.journal p ≡ None) ↔ (projection m.loc p c.journal ≡ m.scripts p))

-- there are at most two events for each letter of the scripts, and one for each process
abbrev pub EventsAreFew : Type 0
EventsAreFew =
    (m : Machine) (es : List Event) → IsMachine m → AreAllowed m (initial m) es →
    length es ≤ 2 * total m.scripts m.processes + m.processes

-- a state that is not over allows an event
abbrev pub EventsGoOn : Type 0
EventsGoOn = (m : Machine) (c : State) → IsMachineState m c → (IsOver m c → ⊥) → (e : Event) × IsAllowed m c e

-- and one that is over allows none
abbrev pub OverAllowsNone : Type 0
OverAllowsNone = (m : Machine) (c : State) (e : Event) → IsMachineState m c → IsOver m c → IsAllowed m c e → ⊥

-- a complete letter stays complete until it is fired
abbrev pub CompleteStays : Type 0
CompleteStays =
    (m : Machine) (c : State) (a : ℕ) (e : Event) → IsMachine m → IsMachineState m c → a < m.letters →
    is_complete m c a ≡ true → IsAllowed m c e → (e ≡ Fire a → ⊥) → is_complete m (after_event m c e) a ≡ true

-- the journal of a state that is over fits maximally
abbrev pub OverIsMaximal : Type 0
OverIsMaximal =
    (m : Machine) (c : State) → IsMachine m → IsMachineState m c → IsOver m c →
    FitsMaximally m.loc m.letters m.scripts c.journal

-- so it is equivalent to the weave
abbrev pub OverIsTheWeave : Type 0
OverIsTheWeave =
    (m : Machine) (c : State) → IsMachine m → IsMachineState m c → IsOver m c →
    AreEquivalent m.loc c.journal (weave m.loc m.letters m.processes m.scripts)

-- it weaves the scripts exactly if every process has ended
abbrev pub OverWeaves : Type 0
OverWeaves =
    (m : Machine) (c : State) → IsMachine m → IsMachineState m c → IsOver m c →
    (Weaves m.loc m.letters m.scripts c.journal ↔ ((p : ℕ) → p < m.processes → is_in c.ended p ≡ true))

-- its answer is that of the scripts
abbrev pub OverHasTheAnswer : Type 0
OverHasTheAnswer =
    (m : Machine) (d : Automaton) (c : State) → IsMachine m → d.letters ≡ m.letters → IsTraceClosed m.loc d →
    IsMachineState m c → IsOver m c → IsAnswer m.loc d m.scripts (answer_at d c)

-- weaving goes on from the journal of any state: it appends the weave of what is left of the scripts
abbrev pub WeavingGoesOnFromStates : Type 0
WeavingGoesOnFromStates =
    (m : Machine) (c : State) → IsMachine m → IsMachineState m c →
    weave_from m.loc m.letters m.scripts (total m.scripts m.processes) c.journal ≡
    c.journal ++ weave m.loc m.letters m.processes (rests m.loc m.scripts c.journal)

-- and then it is equivalent to the weave
abbrev pub RestsWeaveTheSame : Type 0
RestsWeaveTheSame =
    (m : Machine) (c : State) → IsMachine m → IsMachineState m c →
    AreEquivalent m.loc (c.journal ++ weave m.loc m.letters m.processes (rests m.loc m.scripts c.journal))
    (weave m.loc m.letters m.processes m.scripts)

-- at first no letter is in hand
abbrev pub NoHandsAtFirst : Type 0
NoHandsAtFirst = (m : Machine) → AreInHand m (initial m) (no_hands m)

-- moves lead from states that are reached to states that are reached, and only complete letters are in hand of one of
-- their processes, as before
abbrev pub MovesKeepHands : Type 0
MovesKeepHands =
    (m : Machine) (c : State) (hands : List (Option ℕ)) (move : Move) → IsMachine m → IsMachineState m c →
    AreInHand m c hands → MayMove m c hands move →
    IsMachineState m (after_move m c move) × AreInHand m (after_move m c move) (hands_after hands move)

-- a state with a letter in hand is not over
abbrev pub InHandIsNotOver : Type 0
InHandIsNotOver =
    (m : Machine) (c : State) (hands : List (Option ℕ)) (a p : ℕ) →
    AreInHand m c hands → hand hands a ≡ Some p → IsOver m c → ⊥

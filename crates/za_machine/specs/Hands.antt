-- Who has which letter in hand, beside a state of the core machine: a complete letter may be taken up by one of its
-- processes, and is later settled, which fires it, or put back.
use Rattle.std.specs.Prelude.{◌≡◌, ℕ, ◌<◌, true, List, length, replicate, slice_index_or, slice_set, Option, Some, None}
use Rattle.za_alpha.specs.Words.{has}
use Rattle.za_machine.specs.Machine.{Machine, State, Event, Arrive, Fire, End, IsAllowed, after_event, fire}
use Rattle.za_machine.specs.Machine.{is_complete}

-- the process that has the letter in hand. There is an entry for each letter
abbrev pub hand : List (Option ℕ) → ℕ → Option ℕ
hand hands a = slice_index_or hands a None

abbrev pub no_hands : Machine → List (Option ℕ)
no_hands m = replicate m.letters None

-- a letter in hand is complete, and in hand of one of its processes
pub record IsInHand (m : Machine) (c : State) (a p : ℕ) : Type 0 where
  pub letter : a < m.letters
  pub complete : is_complete m c a ≡ true
  pub own : has (m.loc a) p ≡ true

pub record AreInHand (m : Machine) (c : State) (hands : List (Option ℕ)) : Type 0 where
  pub size : length hands ≡ m.letters
  pub each : (a p : ℕ) → hand hands a ≡ Some p → IsInHand m c a p

-- an event of the machine, or the process takes up the letter, settles it, or puts it back
pub data Move : Type 0 where
  Happen : Event → Move
  TakeUp : ℕ → ℕ → Move
  Settle : ℕ → ℕ → Move
  PutBack : ℕ → ℕ → Move

-- a letter that is fired is in nobody's hand
abbrev pub IsFree : List (Option ℕ) → Event → Type 0
IsFree hands (Arrive p) = Unit {0}
IsFree hands (Fire a) = hand hands a ≡ None
IsFree hands (End p) = Unit {0}

abbrev pub MayMove : Machine → State → List (Option ℕ) → Move → Type 0
MayMove m c hands (Happen e) = IsAllowed m c e × IsFree hands e
MayMove m c hands (TakeUp a p) = IsInHand m c a p × (hand hands a ≡ None)
MayMove m c hands (Settle a p) = hand hands a ≡ Some p
MayMove m c hands (PutBack a p) = hand hands a ≡ Some p

-- the state after a move: settling fires the letter, taking up and putting back change nothing
abbrev pub after_move : Machine → State → Move → State
after_move m c (Happen e) = after_event m c e
after_move m c (TakeUp a p) = c
after_move m c (Settle a p) = fire m.loc a c
after_move m c (PutBack a p) = c

-- who has which letter in hand after a move: that of each other letter stays
abbrev pub hands_after : List (Option ℕ) → Move → List (Option ℕ)
hands_after hands (Happen e) = hands
hands_after hands (TakeUp a p) = slice_set hands a (Some p)
hands_after hands (Settle a p) = slice_set hands a None
hands_after hands (PutBack a p) = slice_set hands a None

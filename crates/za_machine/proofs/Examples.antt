-- Computed by the definitions.
use Rattle.std.proofs.Common.{◌≡◌, ℕ, zero, suc, ◌<◌, true, false, ◌||◌, List, [], ◌∷◌, Some, None, refl, arith}
use Rattle.za_dfa.specs.Automata.{Automaton}
use Rattle.za_script.specs.ScriptLists.{script_of}
use Rattle.za_script.specs.declared.answer.Answer.TheVariants.{Accept, Stuck}
use Rattle.za_machine.specs.Machine.{Machine, State, Event, Arrive, Fire, End, initial, run, AreAllowed, IsOver, is_in, is_complete}
use Rattle.za_machine.specs.Hands.{hand, no_hands, hands_after, after_move, TakeUp, Settle}
use Rattle.za_machine.specs.Answer.{answer_at}

-- letter a of process 0, letter b of process 1, and each process has its letter for a script
abbrev two : Machine
two = record { letters = 2; processes = 2; loc = λ a. a ∷ []; scripts = script_of ((0 ∷ []) ∷ (1 ∷ []) ∷ []) }

abbrev everything : Automaton
everything = record { states = 1; letters = 2; start = 0; step = λ q a. 0; accepts = λ q. true }

-- process 1 arrives, fires and ends, and then process 0 does
abbrev events : List Event
events = Arrive 1 ∷ Fire 1 ∷ End 1 ∷ Arrive 0 ∷ Fire 0 ∷ End 0 ∷ []

allowed : AreAllowed two (initial two) events
allowed = (
  (omega arith, refl, omega arith),
  (
    (omega arith, refl),
    (
      (omega arith, refl, refl),
      ((omega arith, refl, omega arith), ((omega arith, refl), ((omega arith, refl, refl), tt))),
    ),
  ),
)

abbrev done : State
done = record { journal = 1 ∷ 0 ∷ []; arrived = false ∷ false ∷ []; ended = true ∷ true ∷ [] }

leads : run two (initial two) events ≡ done
leads = refl

quiet : (a : ℕ) → a < 2 → is_complete two done a ≡ false
quiet zero l = refl
quiet (suc zero) l = refl
quiet (suc (suc a)) l = absurd (omega arith)

each : (p : ℕ) → p < 2 → (is_in done.arrived p || is_in done.ended p) ≡ true
each zero l = refl
each (suc zero) l = refl
each (suc (suc p)) l = absurd (omega arith)

over : IsOver two done
over = record { quiet = quiet; each = each }

answer : answer_at everything done ≡ Accept
answer = refl

-- letters a of process 0, b of process 1 and c of both, scripts `c a` and `b`
abbrev two_loc : ℕ → List ℕ
two_loc zero = 0 ∷ []
two_loc (suc zero) = 1 ∷ []
two_loc (suc (suc a)) = 0 ∷ 1 ∷ []

abbrev stuck : Machine
stuck = record { letters = 3; processes = 2; loc = two_loc; scripts = script_of ((2 ∷ 0 ∷ []) ∷ (1 ∷ []) ∷ []) }

-- once process 0 has arrived, c is short of process 1
short : is_complete stuck (run stuck (initial stuck) (Arrive 0 ∷ [])) 2 ≡ false
short = refl

-- process 1 completes b by its arrival
completes : is_complete stuck (run stuck (initial stuck) (Arrive 0 ∷ Arrive 1 ∷ [])) 1 ≡ true
completes = refl

abbrev stuck_events : List Event
stuck_events = Arrive 0 ∷ Arrive 1 ∷ Fire 1 ∷ End 1 ∷ []

stuck_allowed : AreAllowed stuck (initial stuck) stuck_events
stuck_allowed = ((omega arith, refl, omega arith), ((omega arith, refl, omega arith), ((omega arith, refl), ((omega arith, refl, refl), tt))))

abbrev stuck_end : State
stuck_end = run stuck (initial stuck) stuck_events

stuck_leads : stuck_end ≡ record { journal = 1 ∷ []; arrived = true ∷ false ∷ []; ended = false ∷ true ∷ [] }
stuck_leads = refl

stuck_quiet : (a : ℕ) → a < 3 → is_complete stuck stuck_end a ≡ false
stuck_quiet zero l = refl
stuck_quiet (suc zero) l = refl
stuck_quiet (suc (suc zero)) l = refl
stuck_quiet (suc (suc (suc a))) l = absurd (omega arith)

stuck_each : (p : ℕ) → p < 2 → (is_in stuck_end.arrived p || is_in stuck_end.ended p) ≡ true
stuck_each zero l = refl
stuck_each (suc zero) l = refl
stuck_each (suc (suc p)) l = absurd (omega arith)

stuck_over : IsOver stuck stuck_end
stuck_over = record { quiet = stuck_quiet; each = stuck_each }

stuck_answer : answer_at everything stuck_end ≡ Stuck
stuck_answer = refl

-- process 0 takes up its letter once it has arrived, and settles it
abbrev here : State
here = run two (initial two) (Arrive 0 ∷ [])

complete : is_complete two here 0 ≡ true
complete = refl

in_hand : hand (hands_after (no_hands two) (TakeUp 0 0)) 0 ≡ Some 0
in_hand = refl

settled : hand (hands_after (hands_after (no_hands two) (TakeUp 0 0)) (Settle 0 0)) 0 ≡ None
settled = refl

fired : after_move two here (Settle 0 0) ≡ record { journal = 0 ∷ []; arrived = false ∷ false ∷ []; ended = false ∷ false ∷ [] }
fired = refl

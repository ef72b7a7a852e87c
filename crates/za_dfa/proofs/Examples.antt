-- Computed by the definitions: two processes, and the letters a of process 0, b of process 1 and c of both.
use Rattle.std.proofs.Common.{◌≡◌, ℕ, true, false, List, [], ◌∷◌, ◌==◌, Some, None, refl, cond, lit<}
use Rattle.za_alpha.specs.declared.word.Letter.{Letter}
use Rattle.za_alpha.specs.Procs.{members_below}
use Rattle.za_alpha.specs.Alphabet.{DistributedAlphabet, NamedLetter, loc_of}
use Rattle.za_dfa.specs.declared.rows.Row.{Row}
use Rattle.za_dfa.specs.declared.fault.DfaFault.TheVariants.{StateCount, NoSuchStart, NoSuchState, TwoTargets}
use Rattle.za_dfa.specs.Automata.{Automaton, walk, is_accepted}
use Rattle.za_dfa.specs.Diamonds.{BreaksDiamond}
use Rattle.za_dfa.specs.Tables.{CompleteDfa, step_of, automaton_of}
use Rattle.za_dfa.specs.Rows.{row_fault, dfa_fault, completed}

-- the automaton that accepts the words with an even number of a
abbrev even : Automaton
even = record { states = 2; letters = 3; start = 0; step = λ q a. cond (a == 0) (cond (q == 0) 1 0) q; accepts = λ q. q == 0 }

-- `a b c` leads to the other state, and `a b c a` back
leads : walk even.step even.start (0 ∷ 1 ∷ 2 ∷ []) ≡ 1
leads = refl

rejected : is_accepted even (0 ∷ 1 ∷ 2 ∷ []) ≡ false
rejected = refl

accepted : is_accepted even (0 ∷ 1 ∷ 2 ∷ 0 ∷ []) ≡ true
accepted = refl

-- a and b are a diamond from both states
diamond : even.step (even.step 0 0) 1 ≡ even.step (even.step 0 1) 0
diamond = refl

diamond_back : even.step (even.step 1 0) 1 ≡ even.step (even.step 1 1) 0
diamond_back = refl

abbrev letter : ℕ → Letter
letter a = record { 0 = a }

abbrev row : ℕ → ℕ → ℕ → Row
row from a to = record { from = from; letter = letter a; to = to }

abbrev named : ℕ → ℕ → NamedLetter
named name procs = record { name = name ∷ []; loc = record { 0 = procs } }

-- without c
abbrev two_letters : DistributedAlphabet
two_letters = record { processes = 2; letters = named 97 1 ∷ named 98 2 ∷ [] }

abbrev three_letters : DistributedAlphabet
three_letters = record { processes = 2; letters = named 97 1 ∷ named 98 2 ∷ named 99 3 ∷ [] }

-- a tells the states apart, b and c leave them
abbrev parity_rows : List Row
parity_rows = row 0 0 1 ∷ row 0 1 0 ∷ row 0 2 0 ∷ row 1 0 0 ∷ row 1 1 1 ∷ row 1 2 1 ∷ []

abbrev parity : CompleteDfa
parity = completed three_letters 2 0 (true ∷ false ∷ []) parity_rows

parity_right : dfa_fault 2 0 parity_rows ≡ None
unfolding row_fault
parity_right = refl

-- no row is missing, so no state is added
parity_table : parity ≡ record { alphabet = three_letters; states = 2; start = 0; accepting = true ∷ false ∷ []; targets = 1 ∷ 0 ∷ 0 ∷ 0 ∷ 1 ∷ 1 ∷ [] }
parity_table = refl

parity_accepts : is_accepted (automaton_of parity) (0 ∷ 1 ∷ 2 ∷ 0 ∷ []) ≡ true
parity_accepts = refl

parity_rejects : is_accepted (automaton_of parity) (0 ∷ 2 ∷ []) ≡ false
parity_rejects = refl

-- what is no letter or no state leaves the state as it is
outside_letters : step_of parity 1 3 ≡ 1
outside_letters = refl

outside_states : step_of parity 2 0 ≡ 2
outside_states = refl

-- a and b in turn: the missing rows lead to state 2, which rejects and leads to itself
abbrev in_turn : CompleteDfa
in_turn = completed two_letters 2 0 (true ∷ false ∷ []) (row 0 0 1 ∷ row 1 1 0 ∷ [])

in_turn_table : in_turn ≡ record { alphabet = two_letters; states = 3; start = 0; accepting = true ∷ false ∷ false ∷ []; targets = 1 ∷ 2 ∷ 2 ∷ 0 ∷ 2 ∷ 2 ∷ [] }
in_turn_table = refl

-- with two rows more, a b leads from 0 to 0, and b a from 0 to 1
abbrev parted : CompleteDfa
parted = completed two_letters 2 0 (true ∷ false ∷ []) (row 0 0 1 ∷ row 1 1 0 ∷ row 0 1 0 ∷ row 1 0 1 ∷ [])

parted_breaks : BreaksDiamond (loc_of two_letters) (automaton_of parted)
unfolding members_below
parted_breaks = record { state = 0; left = 0; right = 1; is_state = lit< tt; is_left = lit< tt; is_right = lit< tt; apart = refl; parted = λ same. cc }

-- the faults, the first of which is named
no_states : dfa_fault 0 0 [] ≡ Some StateCount
no_states = refl

too_many_states : dfa_fault 129 0 [] ≡ Some StateCount
too_many_states = refl

no_start : dfa_fault 2 2 (row 0 0 2 ∷ []) ≡ Some NoSuchStart
no_start = refl

no_target : dfa_fault 2 0 (row 0 0 2 ∷ []) ≡ Some (NoSuchState 0)
unfolding row_fault
no_target = refl

no_source : dfa_fault 2 0 (row 0 0 1 ∷ row 2 1 0 ∷ []) ≡ Some (NoSuchState 1)
unfolding row_fault
no_source = refl

two_targets : dfa_fault 2 0 (row 0 0 1 ∷ row 0 0 0 ∷ []) ≡ Some (TwoTargets 1 0 (letter 0))
unfolding row_fault
two_targets = refl

-- an equal row given again changes nothing
given_again : dfa_fault 2 0 (row 0 0 1 ∷ row 0 0 1 ∷ row 1 1 0 ∷ []) ≡ None
unfolding row_fault
given_again = refl

given_again_table : completed two_letters 2 0 (true ∷ false ∷ []) (row 0 0 1 ∷ row 0 0 1 ∷ row 1 1 0 ∷ []) ≡ in_turn
given_again_table = refl

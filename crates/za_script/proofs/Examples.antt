-- Computed by the definitions: two processes, and the letters a of process 0, b of process 1 and c of both.
use Rattle.std.proofs.Common.{◌≡◌, ℕ, zero, suc, true, false, List, [], ◌∷◌, ◌==◌, refl, cond}
use Rattle.za_alpha.specs.Words.{projection}
use Rattle.za_dfa.specs.Automata.{Automaton, is_accepted}
use Rattle.za_script.specs.Scripts.{weave, is_enabled}
use Rattle.za_script.specs.ScriptLists.{script_of, total_of}

abbrev two_loc : ℕ → List ℕ
two_loc zero = 0 ∷ []
two_loc (suc zero) = 1 ∷ []
two_loc (suc (suc n)) = 0 ∷ 1 ∷ []

-- the scripts `a c a` and `b c`
abbrev whole : List (List ℕ)
whole = (0 ∷ 2 ∷ 0 ∷ []) ∷ (1 ∷ 2 ∷ []) ∷ []

total : total_of whole ≡ 5
total = refl

-- they weave to `a b c a`
woven : weave two_loc 3 2 (script_of whole) ≡ 0 ∷ 1 ∷ 2 ∷ 0 ∷ []
woven = refl

-- which uses them up
woven_first : projection two_loc 0 (weave two_loc 3 2 (script_of whole)) ≡ script_of whole 0
woven_first = refl

woven_second : projection two_loc 1 (weave two_loc 3 2 (script_of whole)) ≡ script_of whole 1
woven_second = refl

-- after `a`, c waits for process 1, and after `a b` for none
waits : is_enabled two_loc (script_of whole) (0 ∷ []) 2 ≡ false
waits = refl

next : is_enabled two_loc (script_of whole) (0 ∷ 1 ∷ []) 2 ≡ true
next = refl

-- the scripts `c a` and `b` weave to `b`, of which process 0 has nothing
abbrev stuck : List (List ℕ)
stuck = (2 ∷ 0 ∷ []) ∷ (1 ∷ []) ∷ []

stuck_word : weave two_loc 3 2 (script_of stuck) ≡ 1 ∷ []
stuck_word = refl

stuck_first : projection two_loc 0 (weave two_loc 3 2 (script_of stuck)) ≡ []
stuck_first = refl

-- no letters weave to the empty word
nothing : weave two_loc 3 2 (script_of ([] ∷ [] ∷ [])) ≡ []
nothing = refl

-- the automaton of an even number of a accepts the weave of `a c a` and `b c`, and not that of `a c` and `b c`
abbrev even : Automaton
even = record { states = 2; letters = 3; start = 0; step = λ q a. cond (a == 0) (cond (q == 0) 1 0) q; accepts = λ q. q == 0 }

accepted : is_accepted even (weave two_loc 3 2 (script_of whole)) ≡ true
accepted = refl

rejected : is_accepted even (weave two_loc 3 2 (script_of ((0 ∷ 2 ∷ []) ∷ (1 ∷ 2 ∷ []) ∷ []))) ≡ false
rejected = refl

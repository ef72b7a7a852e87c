-- The definitions on small automata, as they compute.
use Rattle.std.proofs.Common.{◌≡◌, ◌+◌, ◌*◌, true, false, [], ◌∷◌, slice_index, refl}
use Rattle.std.specs.Prelude.{nat_le}
use Rattle.za_dfa.specs.Automata.{Automaton, walk}
use Rattle.za_min.specs.Shortlex.{comes_before}
use Rattle.za_min.specs.Private.Rounds.{refine, rounds, split_word}
use Rattle.za_min.specs.Private.Exploring.{merged}

-- a shorter word comes first, and of two as long the one with the lesser first letter
shorter : comes_before (1 ∷ []) (0 ∷ 0 ∷ []) ≡ true
shorter = refl

lower : comes_before (0 ∷ 1 ∷ []) (1 ∷ 0 ∷ []) ≡ true
lower = refl

not_itself : comes_before (0 ∷ []) (0 ∷ []) ≡ false
not_itself = refl

-- six states of which the last three accept the same words, all of them
abbrev six : Automaton
six =
    record {
      states = 6;
      letters = 2;
      start = 0;
      step = λ q a. slice_index (1 ∷ 2 ∷ 1 ∷ 3 ∷ 4 ∷ 2 ∷ 3 ∷ 3 ∷ 5 ∷ 4 ∷ 5 ∷ 5 ∷ []) (q * 2 + a);
      accepts = λ q. nat_le 3 q;
    }

at_first : rounds six 0 ≡ 0 ∷ 0 ∷ 0 ∷ 3 ∷ 3 ∷ 3 ∷ []
at_first = refl

after_one : rounds six 1 ≡ 0 ∷ 1 ∷ 2 ∷ 3 ∷ 3 ∷ 3 ∷ []
after_one = refl

then_stable : refine six (rounds six 1) ≡ rounds six 1
then_stable = refl

-- the second letter tells the first two states apart
told : split_word six 1 0 1 ≡ 1 ∷ []
told = refl

-- both orders of the letters lead to one class
both_orders : walk (merged six (rounds six 1)).step 0 (0 ∷ 1 ∷ []) ≡ walk (merged six (rounds six 1)).step 0 (1 ∷ 0 ∷ [])
both_orders = refl

-- The minimal DFA of a language: there is one, and it is the only one. And states that are alive.
use Rattle.std.specs.Prelude.{◌≡◌, ℕ, List, ◌↔◌}
use Rattle.za_dfa.specs.Automata.{Automaton, walk}
use Rattle.za_dfa.specs.Tables.{CompleteDfa, IsComplete, automaton_of}
use Rattle.za_min.specs.Minimal.{MinimalDfa, IsMinimalDfa, IsMinimalOf, HaveSameLanguage}
use Rattle.za_min.specs.Live.{IsAlive, CanStillBeAccepted}

-- two minimal DFAs of one language over one alphabet, both numbered by their access words, are equal
abbrev pub MinimalDfasAreOne : Type 0
MinimalDfasAreOne =
    (m n : MinimalDfa) → IsComplete m.dfa → IsComplete n.dfa → IsMinimalDfa m → IsMinimalDfa n →
    m.dfa.alphabet ≡ n.dfa.alphabet → HaveSameLanguage (automaton_of m.dfa) (automaton_of n.dfa) → m ≡ n

-- each complete DFA has a minimal one
abbrev pub MinimalDfasExist : Type 0
MinimalDfasExist = (d : CompleteDfa) → IsComplete d → (e : CompleteDfa) × IsMinimalOf e d

-- a word can still be accepted exactly if the state to which it leads is alive
abbrev pub AliveStatesContinueWords : Type 0
AliveStatesContinueWords =
    (d : Automaton) (w : List ℕ) → CanStillBeAccepted d w ↔ IsAlive d (walk d.step d.start w)

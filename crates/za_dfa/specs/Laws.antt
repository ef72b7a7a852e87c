-- What the diamonds of an automaton give, and what partial and complete tables are to each other.
use Rattle.std.specs.Prelude.{◌≡◌, ℕ, ◌<◌, List}
use Rattle.za_alpha.specs.Words.{IsAlphabet, IsWord, AreEquivalent}
use Rattle.za_dfa.specs.Automata.{Automaton, IsTotal, walk, IsTraceClosed, HasDiamonds}
use Rattle.za_dfa.specs.Tables.{CompleteDfa}
use Rattle.za_dfa.specs.Partials.{completion, whole_of}

-- equivalent words lead from each state to the same state
abbrev pub DiamondsKeepTheState : Type 0
DiamondsKeepTheState =
    (loc : ℕ → List ℕ) (processes : ℕ) (d : Automaton) (q : ℕ) (u v : List ℕ) →
    IsAlphabet loc d.letters processes → IsTotal d → HasDiamonds loc d →
    q < d.states → IsWord d.letters u → IsWord d.letters v → AreEquivalent loc u v → walk d.step q u ≡ walk d.step q v

-- and so the language is trace-closed
abbrev pub DiamondsCloseTheLanguage : Type 0
DiamondsCloseTheLanguage =
    (loc : ℕ → List ℕ) (processes : ℕ) (d : Automaton) →
    IsAlphabet loc d.letters processes → IsTotal d → HasDiamonds loc d → IsTraceClosed loc d

-- the partial table that a complete one is completes to it
abbrev pub WholeTablesComplete : Type 0
WholeTablesComplete = (d : CompleteDfa) → completion (whole_of d) ≡ d

-- When a language is trace-closed, and its least break where it isn't.
use Rattle.std.specs.Prelude.{◌≡◌, ℕ, List, ◌↔◌, ◌⊎◌}
use Rattle.za_alpha.specs.Alphabet.{loc_of}
use Rattle.za_alpha.specs.Words.{IsAlphabet}
use Rattle.za_dfa.specs.Automata.{Automaton, IsTotal, IsTraceClosed, HasDiamonds}
use Rattle.za_dfa.specs.Tables.{CompleteDfa, IsComplete, automaton_of}
use Rattle.za_min.specs.Minimal.{IsMinimal}
use Rattle.za_closure.specs.Breaks.{Break, IsBreak, IsLeastBreak}

-- exactly if it has no break
abbrev pub ClosedIsUnbroken : Type 0
ClosedIsUnbroken =
    (loc : ℕ → List ℕ) (processes : ℕ) (d : Automaton) → IsAlphabet loc d.letters processes →
    (IsTraceClosed loc d ↔ ((k : Break) → ¬ IsBreak loc d k))

-- exactly if its minimal automaton has every diamond
abbrev pub ClosedIsDiamonds : Type 0
ClosedIsDiamonds =
    (loc : ℕ → List ℕ) (processes : ℕ) (d : Automaton) → IsAlphabet loc d.letters processes →
    IsTotal d → IsMinimal d → (IsTraceClosed loc d ↔ HasDiamonds loc d)

-- a least break is one
abbrev pub LeastBreaksAreOne : Type 0
LeastBreaksAreOne =
    (loc : ℕ → List ℕ) (d : Automaton) (k l : Break) → IsLeastBreak loc d k → IsLeastBreak loc d l → k ≡ l

-- the language of each complete DFA is trace-closed or has a least break
abbrev pub ClosedOrBroken : Type 0
ClosedOrBroken =
    (d : CompleteDfa) → IsComplete d →
    IsTraceClosed (loc_of d.alphabet) (automaton_of d)
    ⊎ ((k : Break) × IsLeastBreak (loc_of d.alphabet) (automaton_of d) k)

-- Zielonka's theorem (Zielonka 1987; Mukund 2012) for any numbers of processes, letters and states, and its parts.
use Rattle.std.specs.Prelude.{◌≡◌, ℕ, ◌<◌, Bool, List, [], ◌∷◌, ◌++◌, ◌↔◌, IsTrue, length, map}
use Rattle.za_alpha.specs.Words.{has, IsAlphabet, IsWord, AreEquivalent}
use Rattle.za_alpha.specs.Alphabet.{loc_of}
use Rattle.za_order.specs.Labels.{label}
use Rattle.za_dfa.specs.Automata.{Automaton, IsTotal, walk, is_accepted, IsTraceClosed, HasDiamonds}
use Rattle.za_dfa.specs.Tables.{CompleteDfa, IsComplete, automaton_of}
use Rattle.za_local.specs.Locals.{LocalState, local_state}
use Rattle.za_theorem.specs.Asynchronous.{Asynchronous, IsAsynchronous, global_after, accepts_word}
use Rattle.za_theorem.specs.Languages.{
  AreProcesses,
  IsRegular,
  IsDiamondRegular,
  IsClosedLanguage,
  IsDistributable,
  IsDiamondAutomaton,
}
use Rattle.za_theorem.specs.Codes.{IsLocal, local_code, local_bound}
use Rattle.za_theorem.specs.Machine.{IsOfLocals, IsRun}

-- Zielonka's theorem: a deterministic asynchronous automaton, with finitely many local states, accepts a language
-- exactly if it is regular and trace-closed. Letters without a participant are allowed here: equivalence and moves pass
-- over them
abbrev pub ZielonkasTheorem : Type 0
ZielonkasTheorem =
    (loc : ℕ → List ℕ) (letters processes : ℕ) (language : List ℕ → Bool) → AreProcesses loc letters processes →
    (IsDistributable loc letters processes language ↔
    (IsRegular letters language × IsClosedLanguage loc letters language))

-- where each letter has a participant, exactly if an automaton with every diamond accepts it
abbrev pub DistributableByDiamonds : Type 0
DistributableByDiamonds =
    (loc : ℕ → List ℕ) (letters processes : ℕ) (language : List ℕ → Bool) → IsAlphabet loc letters processes →
    (IsDistributable loc letters processes language ↔ IsDiamondRegular loc letters language)

-- so the language of a complete automaton is that of an asynchronous one exactly if it is trace-closed
abbrev pub ClosedIsDistributable : Type 0
ClosedIsDistributable =
    (loc : ℕ → List ℕ) (processes : ℕ) (d : Automaton) → AreProcesses loc d.letters processes → IsTotal d →
    (IsDistributable loc d.letters processes (is_accepted d) ↔ IsTraceClosed loc d)

-- a complete automaton whose language is trace-closed has the language of one with every diamond
abbrev pub ClosedHasDiamonds : Type 0
ClosedHasDiamonds =
    (loc : ℕ → List ℕ) (d : Automaton) → IsTotal d → IsTraceClosed loc d →
    IsDiamondRegular loc d.letters (is_accepted d)

-- equivalent words lead an asynchronous automaton, also one with infinitely many local states, to the same local
-- states, so its language is trace-closed
abbrev pub AsynchronousIsClosed : Type 0
AsynchronousIsClosed =
    (loc : ℕ → List ℕ) (processes : ℕ) (z : Asynchronous) (u v : List ℕ) → AreEquivalent loc u v →
    ((p : ℕ) → global_after loc z u p ≡ global_after loc z v p)
    × (accepts_word loc processes z u ≡ accepts_word loc processes z v)

-- with finitely many local states its language is that of an automaton with every diamond
abbrev pub AsynchronousIsRegular : Type 0
AsynchronousIsRegular =
    (loc : ℕ → List ℕ) (letters processes : ℕ) (z : Asynchronous) → AreProcesses loc letters processes →
    IsAsynchronous loc letters processes z → IsDiamondRegular loc letters (accepts_word loc processes z)

-- each complete automaton with every diamond has an asynchronous automaton with its language, whose local states are
-- those of its processes, as numbers
abbrev pub DiamondsGiveAsynchronous : Type 0
DiamondsGiveAsynchronous =
    (loc : ℕ → List ℕ) (processes : ℕ) (d : Automaton) → IsDiamondAutomaton loc processes d →
    (z : Asynchronous) × IsOfLocals loc processes d z

-- what a letter makes of its participants, and the label of its event, depend on their local states alone
abbrev pub TransitionIsLocal : Type 0
TransitionIsLocal =
    (loc : ℕ → List ℕ) (processes : ℕ) (d : Automaton) (u v : List ℕ) (a : ℕ) →
    IsDiamondAutomaton loc processes d → IsWord d.letters u → IsWord d.letters v → a < d.letters →
    map (local_state loc processes d u) (loc a) ≡ map (local_state loc processes d v) (loc a) →
    ((p : ℕ) → IsTrue (has (loc a) p) →
    local_state loc processes d (u ++ a ∷ []) p ≡ local_state loc processes d (v ++ a ∷ []) p)
    × (label loc processes (u ++ a ∷ []) (length u) ≡ label loc processes (v ++ a ∷ []) (length v))

-- where a word leads depends on the local states of all processes alone
abbrev pub VerdictIsLocal : Type 0
VerdictIsLocal =
    (loc : ℕ → List ℕ) (processes : ℕ) (d : Automaton) (u v : List ℕ) →
    IsDiamondAutomaton loc processes d → IsWord d.letters u → IsWord d.letters v →
    ((p : ℕ) → p < processes → local_state loc processes d u p ≡ local_state loc processes d v p) →
    walk d.step d.start u ≡ walk d.step d.start v

-- a local state is lists of fixed lengths of numbers below fixed bounds
abbrev pub LocalsAreLists : Type 0
LocalsAreLists =
    (loc : ℕ → List ℕ) (processes : ℕ) (d : Automaton) (w : List ℕ) (p : ℕ) →
    IsAlphabet loc d.letters processes → IsTotal d → IsWord d.letters w →
    IsLocal d.letters processes d.states (local_state loc processes d w p)

-- such lists are one number below the bound, and no two are one number: so there are finitely many
abbrev pub CodesAreBounded : Type 0
CodesAreBounded =
    (letters processes states : ℕ) (a : LocalState) → IsLocal letters processes states a →
    local_code letters processes states a < local_bound letters processes states

abbrev pub CodesTellApart : Type 0
CodesTellApart =
    (letters processes states : ℕ) (a b : LocalState) →
    IsLocal letters processes states a → IsLocal letters processes states b →
    local_code letters processes states a ≡ local_code letters processes states b → a ≡ b

-- each table with every diamond has an asynchronous automaton with its language that the program runs
abbrev pub ProgramRunsTheAutomaton : Type 0
ProgramRunsTheAutomaton =
    (d : CompleteDfa) → IsComplete d → HasDiamonds (loc_of d.alphabet) (automaton_of d) →
    (z : Asynchronous) × IsOfLocals (loc_of d.alphabet) d.alphabet.processes (automaton_of d) z × IsRun d z

-- Languages, as tests of words, and the automata that accept them.
use Rattle.std.specs.Prelude.{◌≡◌, ℕ, ◌<◌, Bool, List, IsTrue}
use Rattle.za_alpha.specs.Words.{has, IsAlphabet, IsWord, AreEquivalent}
use Rattle.za_dfa.specs.Automata.{Automaton, IsTotal, is_accepted, HasDiamonds}
use Rattle.za_theorem.specs.Asynchronous.{Asynchronous, IsAsynchronous, accepts_word}

-- the participants of each letter are processes: numbers below `processes`
abbrev pub AreProcesses : (ℕ → List ℕ) → ℕ → ℕ → Type 0
AreProcesses loc letters processes = (a p : ℕ) → a < letters → IsTrue (has (loc a) p) → p < processes

-- the automaton is a complete one over these letters, and accepts the words of the language and no others
pub record Accepts (letters : ℕ) (d : Automaton) (language : List ℕ → Bool) : Type 0 where
  pub same_letters : d.letters ≡ letters
  pub total : IsTotal d
  pub words : (w : List ℕ) → IsWord letters w → is_accepted d w ≡ language w

-- regular: a complete automaton, with finitely many states, accepts it
abbrev pub IsRegular : ℕ → (List ℕ → Bool) → Type 0
IsRegular letters language = (d : Automaton) × Accepts letters d language

-- one with every diamond does
abbrev pub IsDiamondRegular : (ℕ → List ℕ) → ℕ → (List ℕ → Bool) → Type 0
IsDiamondRegular loc letters language = (d : Automaton) × Accepts letters d language × HasDiamonds loc d

-- trace-closed: of two equivalent words both are in the language, or neither
abbrev pub IsClosedLanguage : (ℕ → List ℕ) → ℕ → (List ℕ → Bool) → Type 0
IsClosedLanguage loc letters language =
    (u v : List ℕ) → IsWord letters u → IsWord letters v → AreEquivalent loc u v → language u ≡ language v

-- the asynchronous automaton has finitely many local states of each process, and accepts the words of the language and
-- no others
pub record AcceptsLocally (loc : ℕ → List ℕ) (letters processes : ℕ) (z : Asynchronous) (language : List ℕ → Bool)
    : Type 0 where
  pub whole : IsAsynchronous loc letters processes z
  pub words : (w : List ℕ) → IsWord letters w → accepts_word loc processes z w ≡ language w

-- distributable: a deterministic asynchronous automaton accepts it
abbrev pub IsDistributable : (ℕ → List ℕ) → ℕ → ℕ → (List ℕ → Bool) → Type 0
IsDistributable loc letters processes language = (z : Asynchronous) × AcceptsLocally loc letters processes z language

-- a complete automaton over a distributed alphabet, with every diamond
pub record IsDiamondAutomaton (loc : ℕ → List ℕ) (processes : ℕ) (d : Automaton) : Type 0 where
  pub alphabet : IsAlphabet loc d.letters processes
  pub total : IsTotal d
  pub diamonds : HasDiamonds loc d

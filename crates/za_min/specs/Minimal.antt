-- Minimal automata, and the words that number their states (Zielonka 1987; the numbering is zla's own).
use Rattle.std.specs.Prelude.{◌≡◌, ◌≢◌, ℕ, ◌<◌, List, [], IsTrue, length, slice_index_or}
use Rattle.za_alpha.specs.Words.{IsWord}
use Rattle.za_dfa.specs.Automata.{Automaton, walk, is_accepted}
use Rattle.za_dfa.specs.Tables.{CompleteDfa, IsComplete, automaton_of}
use Rattle.za_min.specs.Shortlex.{comes_before, IsLeastWord}

-- the word leads from the start to state q
pub record LeadsTo (d : Automaton) (q : ℕ) (w : List ℕ) : Type 0 where
  pub word : IsWord d.letters w
  pub there : walk d.step d.start w ≡ q

-- the word tells the states q and r apart: it is accepted from exactly one of them
pub record TellsApart (d : Automaton) (q r : ℕ) (w : List ℕ) : Type 0 where
  pub word : IsWord d.letters w
  pub apart : d.accepts (walk d.step q w) ≢ d.accepts (walk d.step r w)

-- some word leads to the state
abbrev pub IsReached : Automaton → ℕ → Type 0
IsReached d q = (w : List ℕ) × LeadsTo d q w

-- some word tells the states apart
abbrev pub AreToldApart : Automaton → ℕ → ℕ → Type 0
AreToldApart d q r = (w : List ℕ) × TellsApart d q r w

-- each state is reached, and any two different states are told apart
pub record IsMinimal (d : Automaton) : Type 0 where
  pub reached : (q : ℕ) → q < d.states → IsReached d q
  pub told : (q r : ℕ) → q < d.states → r < d.states → q ≢ r → AreToldApart d q r

-- the access word of a state: the shortlex-least word that leads to it
abbrev pub IsAccessWord : Automaton → ℕ → List ℕ → Type 0
IsAccessWord d q w = IsLeastWord (LeadsTo d q) w

-- the shortlex-least word that tells the states apart
abbrev pub IsLeastApart : Automaton → ℕ → ℕ → List ℕ → Type 0
IsLeastApart d q r w = IsLeastWord (TellsApart d q r) w

-- the word at a place
abbrev pub word_at : List (List ℕ) → ℕ → List ℕ
word_at words k = slice_index_or words k []

-- the states are numbered by these words: each is the access word of its state, and they rise in shortlex order
pub record IsNumberedBy (d : Automaton) (words : List (List ℕ)) : Type 0 where
  pub one_each : length words ≡ d.states
  pub access : (q : ℕ) → q < d.states → IsAccessWord d q (word_at words q)
  pub rising : (q r : ℕ) → q < r → r < d.states → IsTrue (comes_before (word_at words q) (word_at words r))

-- the automata accept the same words
abbrev pub HaveSameLanguage : Automaton → Automaton → Type 0
HaveSameLanguage d e = (w : List ℕ) → IsWord d.letters w → is_accepted d w ≡ is_accepted e w

-- a DFA, and a word for each of its states
pub record MinimalDfa : Type 0 where
  pub dfa : CompleteDfa
  pub access : List (List ℕ)

-- the DFA is minimal, and numbered by the words
pub record IsMinimalDfa (m : MinimalDfa) : Type 0 where
  pub minimal : IsMinimal (automaton_of m.dfa)
  pub numbered : IsNumberedBy (automaton_of m.dfa) m.access

-- the minimal automaton of the language of another, its states numbered by their least access words
pub record IsMinimalOf (d other : CompleteDfa) : Type 0 where
  pub complete : IsComplete d
  pub alphabet : d.alphabet ≡ other.alphabet
  pub language : HaveSameLanguage (automaton_of d) (automaton_of other)
  pub minimal : IsMinimal (automaton_of d)
  pub access : List (List ℕ)
  pub numbered : IsNumberedBy (automaton_of d) access

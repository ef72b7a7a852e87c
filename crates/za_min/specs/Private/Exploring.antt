-- The states that words reach, found breadth first with their access words.
use Rattle.std.specs.Prelude.{◌≡◌, ◌≢◌, ℕ, ◌<◌, ◌≤◌, ◌⊎◌, ◌/◌, ◌%◌, IsTrue, IsFalse}
use Rattle.std.specs.Prelude.{List, [], ◌∷◌, ◌++◌, length, map, slice_index}
use Rattle.za_alpha.specs.Words.{IsWord}
use Rattle.za_dfa.specs.Automata.{Automaton, walk}
use Rattle.za_dfa.specs.Tables.{CompleteDfa, automaton_of}
use Rattle.za_min.specs.Shortlex.{comes_before}
use Rattle.za_min.specs.Minimal.{word_at}

-- each letter leads to the class of its target, named by a state of the class
abbrev pub merged : Automaton → List ℕ → Automaton
merged d classes =
    record {
      states = d.states;
      letters = d.letters;
      start = slice_index classes d.start;
      step = λ q a. slice_index classes (d.step q a);
      accepts = d.accepts;
    }

-- the states of the table, merged to these classes
abbrev pub merged_of : CompleteDfa → List ℕ → Automaton
merged_of dfa classes = merged (automaton_of dfa) classes

-- where a word leads
abbrev pub state_of : Automaton → List ℕ → ℕ
state_of d w = walk d.step d.start w

-- the letter b of place j comes before the letter a of place i, place by place and letter by letter
abbrev pub IsDone : ℕ → ℕ → ℕ → ℕ → Type 0
IsDone i a j b = (j < i) ⊎ ((j ≡ i) × (b < a))

-- w is a word of the list and one letter more, which is done
pub record IsLonger (i a : ℕ) (words : List (List ℕ)) (w : List ℕ) : Type 0 where
  pub from : ℕ
  pub by : ℕ
  pub within : from < length words
  pub done : IsDone i a from by
  pub is : w ≡ word_at words from ++ by ∷ []

-- some word of the list leads where letter b leads from word j, and doesn't come after that longer word
pub record IsMet (d : Automaton) (words : List (List ℕ)) (j b : ℕ) : Type 0 where
  pub to : ℕ
  pub within : to < length words
  pub state : state_of d (word_at words to) ≡ d.step (state_of d (word_at words j)) b
  pub least : IsFalse (comes_before (word_at words j ++ b ∷ []) (word_at words to))

-- words that lead to different states, in shortlex order, where the letters below a of place i and all
-- letters of the places before it are done
pub record AreFound (d : Automaton) (i a : ℕ) (words : List (List ℕ)) : Type 0 where
  pub some : 0 < length words
  pub first : word_at words 0 ≡ []
  pub word : (k : ℕ) → k < length words → IsWord d.letters (word_at words k)
  pub rising : (j k : ℕ) → j < k → k < length words → IsTrue (comes_before (word_at words j) (word_at words k))
  pub origin : (k : ℕ) → k < length words → (word_at words k ≡ []) ⊎ IsLonger i a words (word_at words k)
  pub met : (j b : ℕ) → j < length words → b < d.letters → IsDone i a j b → IsMet d words j b
  pub apart : (j k : ℕ) → j < k → k < length words → state_of d (word_at words j) ≢ state_of d (word_at words k)

-- words, and the states that they lead to
pub record AreStatesOf (d : Automaton) (words : List (List ℕ)) (states : List ℕ) : Type 0 where
  pub word : (k : ℕ) → k < length words → IsWord d.letters (word_at words k)
  pub states_each : states ≡ map (state_of d) words

-- the words that are found, and the states that they lead to
pub record AreFoundStates (d : Automaton) (i a : ℕ) (words : List (List ℕ)) (states : List ℕ) : Type 0 where
  pub found : AreFound d i a words
  pub states_each : states ≡ map (state_of d) words

-- all letters of all places are done
pub record AreAllFound (d : Automaton) (words : List (List ℕ)) (states : List ℕ) : Type 0 where
  pub done : ℕ
  pub found : AreFoundStates d done 0 words states
  pub all : length words ≤ done

-- the place of the word that leads where letter a leads from the word at place k
pub record IsTarget (d : Automaton) (words : List (List ℕ)) (k a t : ℕ) : Type 0 where
  pub within : t < length words
  pub there : state_of d (word_at words t) ≡ d.step (state_of d (word_at words k)) a

-- e is d on the states that the words lead to, numbered by the places of the words
pub record Renumbers (d : Automaton) (words : List (List ℕ)) (e : Automaton) : Type 0 where
  pub states : e.states ≡ length words
  pub letters : e.letters ≡ d.letters
  pub start : e.start ≡ 0
  pub steps : (k a : ℕ) → k < length words → a < d.letters → IsTarget d words k a (e.step k a)
  pub accepts : (k : ℕ) → k < length words → e.accepts k ≡ d.accepts (state_of d (word_at words k))

-- targets for the first n cells, at k * m + a for place k and letter a of m letters
pub record AreTargets (d : Automaton) (words : List (List ℕ)) (n : ℕ) (targets : List ℕ) : Type 0 where
  pub many : length targets ≡ n
  pub each : (i : ℕ) → i < n → IsTarget d words (i / d.letters) (i % d.letters) (slice_index targets i)

-- The asynchronous automaton whose local states are those that the program keeps, as numbers.
use Rattle.std.specs.Prelude.{◌≡◌, ℕ, ◌<◌, List, [], ◌∷◌, ◌++◌, IsTrue, length, map}
use Rattle.za_alpha.specs.Words.{has, IsWord}
use Rattle.za_alpha.specs.Alphabet.{loc_of}
use Rattle.za_dfa.specs.Automata.{Automaton, walk, is_accepted}
use Rattle.za_dfa.specs.Tables.{CompleteDfa, step_of, accepts_at}
use Rattle.za_local.specs.Locals.{LocalState, local_state, local_after, AreLocalsAfter, AreAllLocalsAfter}
use Rattle.za_theorem.specs.Asynchronous.{Asynchronous, global_after}
use Rattle.za_theorem.specs.Languages.{AcceptsLocally}
use Rattle.za_theorem.specs.Codes.{local_code, local_bound}

-- the local state of p after the word as a number
abbrev pub code_after : (ℕ → List ℕ) → ℕ → Automaton → List ℕ → ℕ → ℕ
code_after loc processes d w p = local_code d.letters processes d.states (local_state loc processes d w p)

-- the asynchronous automaton has the language of d; each process has as many local states as the bound says, and after
-- each word it is in the one that is the number of its local state
pub record IsOfLocals (loc : ℕ → List ℕ) (processes : ℕ) (d : Automaton) (z : Asynchronous) : Type 0 where
  pub accepts : AcceptsLocally loc d.letters processes z (is_accepted d)
  pub states : (p : ℕ) → z.states p ≡ local_bound d.letters processes d.states
  pub locals : (w : List ℕ) (p : ℕ) → IsWord d.letters w → global_after loc z w p ≡ code_after loc processes d w p

-- a local state of a table's automaton as a number
abbrev pub table_code : CompleteDfa → LocalState → ℕ
table_code d local = local_code (length d.alphabet.letters) d.alphabet.processes d.states local

-- the program runs the asynchronous automaton, its local states being lists for numbers: an opening is the start; what
-- `transit` makes of the local states of a letter's participants is what the letter makes of them; and where `verdict`
-- says that the local states of all processes lead to a state that accepts, they accept
pub record IsRun (d : CompleteDfa) (z : Asynchronous) : Type 0 where
  pub opening : (p : ℕ) → z.start p ≡ table_code d (local_after d [] p)
  pub transit : (w : List ℕ) (a : ℕ) (locals : List LocalState) → a < length d.alphabet.letters →
      AreLocalsAfter d w (loc_of d.alphabet a) locals → (x : ℕ) → IsTrue (has (loc_of d.alphabet a) x) →
      z.next a (map (table_code d) locals) x ≡ table_code d (local_after d (w ++ a ∷ []) x)
  pub verdict : (w : List ℕ) (locals : List LocalState) → AreAllLocalsAfter d w locals →
      z.accepts (map (table_code d) locals) ≡ accepts_at d (walk (step_of d) d.start w)

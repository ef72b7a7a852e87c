-- Deterministic automata, and languages that are closed under trace equivalence.
use Rattle.std.specs.Prelude.{◌≡◌, ℕ, ◌<◌, Bool, List, [], ◌∷◌, IsTrue}
use Rattle.za_alpha.specs.Words.{independent, IsWord, AreEquivalent}

-- a deterministic automaton: the states are those below `states`, the letters those below `letters`
pub record Automaton : Type 0 where
  pub states : ℕ
  pub letters : ℕ
  pub start : ℕ
  pub step : ℕ → ℕ → ℕ
  pub accepts : ℕ → Bool

-- the start is a state, and each letter leads from each state to a state
pub record IsTotal (d : Automaton) : Type 0 where
  pub starts : d.start < d.states
  pub steps : (q a : ℕ) → q < d.states → a < d.letters → d.step q a < d.states

-- where the word leads from x
abbrev pub walk : {X : Type 0} → (X → ℕ → X) → X → List ℕ → X
walk step x [] = x
walk step x (a ∷ w) = walk step (step x a) w

-- whether the word leads from the start to an accepting state
abbrev pub is_accepted : Automaton → List ℕ → Bool
is_accepted d w = d.accepts (walk d.step d.start w)

-- the language is trace-closed: of two equivalent words both are accepted, or neither
abbrev pub IsTraceClosed : (ℕ → List ℕ) → Automaton → Type 0
IsTraceClosed loc d =
    (u v : List ℕ) → IsWord d.letters u → IsWord d.letters v → AreEquivalent loc u v → is_accepted d u ≡ is_accepted d v

-- every diamond: from each state, two independent letters lead to one state in either order
abbrev pub HasDiamonds : (ℕ → List ℕ) → Automaton → Type 0
HasDiamonds loc d =
    (q a b : ℕ) → q < d.states → a < d.letters → b < d.letters → IsTrue (independent loc a b) →
    d.step (d.step q a) b ≡ d.step (d.step q b) a

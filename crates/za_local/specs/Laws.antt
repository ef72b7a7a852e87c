-- What an event does to the local states, and that they depend on the trace alone.
use Rattle.std.specs.Prelude.{◌≡◌, ℕ, ◌<◌, List, [], ◌∷◌, ◌++◌, IsTrue, IsFalse}
use Rattle.za_alpha.specs.Words.{has, IsAlphabet, IsWord, AreEquivalent}
use Rattle.za_dfa.specs.Automata.{Automaton, IsTotal, HasDiamonds}
use Rattle.za_local.specs.Locals.{local_state}

-- who takes no part in an event keeps its local state
abbrev pub OthersKeepLocals : Type 0
OthersKeepLocals =
    (loc : ℕ → List ℕ) (processes : ℕ) (d : Automaton) (w : List ℕ) (a p : ℕ) →
    IsAlphabet loc d.letters processes → IsWord d.letters w → a < d.letters → IsFalse (has (loc a) p) →
    local_state loc processes d (w ++ a ∷ []) p ≡ local_state loc processes d w p

-- all who take part have the same
abbrev pub ParticipantsAgreeOnLocals : Type 0
ParticipantsAgreeOnLocals =
    (loc : ℕ → List ℕ) (processes : ℕ) (d : Automaton) (w : List ℕ) (a p q : ℕ) →
    IsAlphabet loc d.letters processes → IsWord d.letters w → a < d.letters →
    IsTrue (has (loc a) p) → IsTrue (has (loc a) q) →
    local_state loc processes d (w ++ a ∷ []) p ≡ local_state loc processes d (w ++ a ∷ []) q

-- equivalent words have the same local states
abbrev pub SameTraceSameLocals : Type 0
SameTraceSameLocals =
    (loc : ℕ → List ℕ) (processes : ℕ) (d : Automaton) (u v : List ℕ) (p : ℕ) →
    IsAlphabet loc d.letters processes → IsTotal d → HasDiamonds loc d →
    IsWord d.letters u → IsWord d.letters v → AreEquivalent loc u v →
    local_state loc processes d u p ≡ local_state loc processes d v p

-- Knowledge is that of the trace.
use Rattle.std.specs.Prelude.{◌≡◌, ℕ, List}
use Rattle.za_alpha.specs.Words.{IsAlphabet, IsWord, AreEquivalent}
use Rattle.za_order.specs.Words.{IsMatch}
use Rattle.za_payload.specs.Knowledge.{known_after, news}

-- equivalent words whose matching events write the same number give equal knowledge
abbrev pub KnowledgeAgrees : Type 0
KnowledgeAgrees =
    (loc : ℕ → List ℕ) (u v : List ℕ) (first second : ℕ → ℕ) (p q : ℕ) → AreEquivalent loc u v →
    ((i j : ℕ) → IsMatch u v i j → first i ≡ second j) → known_after loc u first p q ≡ known_after loc v second p q

-- and so do equivalent words whose events write readings
abbrev pub NewsAgrees : Type 0
NewsAgrees =
    (loc : ℕ → List ℕ) (letters processes : ℕ) (readings : ℕ → List ℕ) (u v : List ℕ) (p q : ℕ) →
    IsAlphabet loc letters processes → IsWord letters u → AreEquivalent loc u v →
    news loc processes readings u p q ≡ news loc processes readings v p q

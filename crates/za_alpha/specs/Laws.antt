-- What equivalence is, by swaps.
use Rattle.std.specs.Prelude.{ℕ, List, ◌↔◌}
use Rattle.za_alpha.specs.Words.{IsAlphabet, IsWord, AreEquivalent, Swaps}

-- words are equivalent exactly if finitely many swaps of neighbouring independent letters lead from one to the other
abbrev pub EquivalenceIsSwapping : Type 0
EquivalenceIsSwapping =
    (loc : ℕ → List ℕ) (letters processes : ℕ) (u v : List ℕ) →
    IsAlphabet loc letters processes → IsWord letters u → IsWord letters v →
    (AreEquivalent loc u v ↔ Swaps loc u v)

-- The hope of scripts that are stuck: whether what was fired can still become an accepted word.
use Rattle.std.specs.Prelude.{◌≡◌, ℕ, List, Option, Some, None}
use Rattle.za_alpha.specs.Words.{IsWord, AreEquivalent}
use Rattle.za_dfa.specs.Automata.{Automaton}
use Rattle.za_min.specs.declared.live.Hope.{Hope}
use Rattle.za_min.specs.declared.live.Hope.TheVariants.{Alive, Dead}
use Rattle.za_min.specs.Live.{CanStillBeAccepted}
use Rattle.za_script.specs.declared.answer.Answer.{Answer}
use Rattle.za_script.specs.declared.answer.Answer.TheVariants.{Accept, Reject, Stuck}
use Rattle.za_script.specs.Scripts.{weave}

-- some accepted word begins with a word that is equivalent to the weave of the scripts
abbrev pub CanBeSaved : (ℕ → List ℕ) → ℕ → Automaton → (ℕ → List ℕ) → Type 0
CanBeSaved loc processes d scripts =
    (w : List ℕ) × IsWord d.letters w × AreEquivalent loc w (weave loc d.letters processes scripts)
    × CanStillBeAccepted d w

-- the hope of the scripts
abbrev pub IsHopeOf : (ℕ → List ℕ) → ℕ → Automaton → (ℕ → List ℕ) → Hope → Type 0
IsHopeOf loc processes d scripts Alive = CanBeSaved loc processes d scripts
IsHopeOf loc processes d scripts Dead = ¬ CanBeSaved loc processes d scripts

-- with stuck goes a hope of which this holds, and with the other answers none
abbrev pub GoesWith : (Hope → Type 0) → Answer → Option Hope → Type 0
GoesWith Holds Accept hope = hope ≡ None
GoesWith Holds Reject hope = hope ≡ None
GoesWith Holds Stuck None = ⊥
GoesWith Holds Stuck (Some hope) = Holds hope

-- the hope that goes with an answer to scripts
abbrev pub IsHopeFor : (ℕ → List ℕ) → ℕ → Automaton → (ℕ → List ℕ) → Answer → Option Hope → Type 0
IsHopeFor loc processes d scripts answer hope = GoesWith (IsHopeOf loc processes d scripts) answer hope

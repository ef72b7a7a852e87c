-- The hope of scripts is that of any run of them to its end, and of what such a run leaves.
use Rattle.std.specs.Prelude.{◌≡◌, ℕ, List, ◌↔◌, Option}
use Rattle.za_alpha.specs.Words.{IsAlphabet}
use Rattle.za_alpha.specs.Alphabet.{loc_of}
use Rattle.za_dfa.specs.Automata.{Automaton, walk, IsTraceClosed}
use Rattle.za_dfa.specs.Tables.{CompleteDfa, IsComplete, automaton_of}
use Rattle.za_min.specs.declared.live.Hope.{Hope}
use Rattle.za_min.specs.Live.{IsHope}
use Rattle.za_min.specs.Minimal.{HaveSameLanguage}
use Rattle.za_script.specs.declared.answer.Answer.{Answer}
use Rattle.za_script.specs.Scripts.{Fits, FitsMaximally}
use Rattle.za_script.specs.Rests.{rests, after}
use Rattle.za_hope.specs.Hopes.{CanBeSaved, IsHopeOf, IsHopeFor}

-- the hope of the scripts is that of the state to which a word leads that fits them maximally
abbrev pub HopeIsOfTheState : Type 0
HopeIsOfTheState =
    (loc : ℕ → List ℕ) (processes : ℕ) (d : Automaton) (scripts : ℕ → List ℕ) (w : List ℕ) (hope : Hope) →
    IsAlphabet loc d.letters processes → IsTraceClosed loc d → FitsMaximally loc d.letters scripts w →
    (IsHopeOf loc processes d scripts hope ↔ IsHope d (walk d.step d.start w) hope)

-- it depends on the language alone
abbrev pub HopeIsOfTheLanguage : Type 0
HopeIsOfTheLanguage =
    (loc : ℕ → List ℕ) (processes : ℕ) (d e : Automaton) (scripts : ℕ → List ℕ) (hope : Hope) →
    d.letters ≡ e.letters → HaveSameLanguage d e → IsHopeOf loc processes d scripts hope →
    IsHopeOf loc processes e scripts hope

-- one hope goes with an answer to scripts
abbrev pub HopesAreOne : Type 0
HopesAreOne =
    (loc : ℕ → List ℕ) (processes : ℕ) (d : Automaton) (scripts : ℕ → List ℕ) (answer : Answer)
    (g h : Option Hope) → IsHopeFor loc processes d scripts answer g →
    IsHopeFor loc processes d scripts answer h → g ≡ h

-- and some hope does, or none
abbrev pub HopesExist : Type 0
HopesExist =
    (d : CompleteDfa) (scripts : ℕ → List ℕ) (answer : Answer) → IsComplete d →
    IsTraceClosed (loc_of d.alphabet) (automaton_of d) →
    (hope : Option Hope)
    × IsHopeFor (loc_of d.alphabet) d.alphabet.processes (automaton_of d) scripts answer hope

-- after any word that fits, what is left of the scripts can be saved exactly if the scripts can
abbrev pub RestHasTheHope : Type 0
RestHasTheHope =
    (loc : ℕ → List ℕ) (processes : ℕ) (d : Automaton) (scripts : ℕ → List ℕ) (w : List ℕ) →
    IsAlphabet loc d.letters processes → IsTraceClosed loc d → Fits loc d.letters scripts w →
    (CanBeSaved loc processes (after d w) (rests loc scripts w) ↔ CanBeSaved loc processes d scripts)

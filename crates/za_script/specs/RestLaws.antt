-- Weaving goes on from any word that fits: what is left of the scripts answers as all of them do.
use Rattle.std.specs.Prelude.{◌≡◌, ℕ, ◌+◌, ◌≤◌, ◌↔◌, List, ◌++◌, length, take}
use Rattle.za_alpha.specs.Words.{IsAlphabet, IsWord, projection, AreEquivalent}
use Rattle.za_dfa.specs.Automata.{Automaton, IsTraceClosed}
use Rattle.za_script.specs.declared.answer.Answer.{Answer}
use Rattle.za_script.specs.Scripts.{total, weave_from, weave, Fits}
use Rattle.za_script.specs.Answer.{IsAnswer}
use Rattle.za_script.specs.Rests.{rests, after}

-- weaving from a word on, long enough, appends the weave of what is left of the scripts
abbrev pub WeavingGoesOn : Type 0
WeavingGoesOn =
    (loc : ℕ → List ℕ) (letters processes : ℕ) (scripts : ℕ → List ℕ) (more : ℕ) (w : List ℕ) →
    IsAlphabet loc letters processes → Fits loc letters scripts w → total scripts processes ≤ length w + more →
    weave_from loc letters scripts more w ≡ w ++ weave loc letters processes (rests loc scripts w)

-- the first letters of the weave fit the scripts
abbrev pub CutsFit : Type 0
CutsFit =
    (loc : ℕ → List ℕ) (letters processes : ℕ) (scripts : ℕ → List ℕ) (k : ℕ) → IsAlphabet loc letters processes →
    Fits loc letters scripts (take k (weave loc letters processes scripts))

-- the weave is its first letters, as many as one likes, and the weave of what they leave of the scripts
abbrev pub CutsWeaveOn : Type 0
CutsWeaveOn =
    (loc : ℕ → List ℕ) (letters processes : ℕ) (scripts : ℕ → List ℕ) (k : ℕ) → IsAlphabet loc letters processes →
    let w = take k (weave loc letters processes scripts) in
    weave loc letters processes scripts ≡ w ++ weave loc letters processes (rests loc scripts w)

-- after any word that fits: it and the weave of what is left are one trace with the weave
abbrev pub RestIsOneTrace : Type 0
RestIsOneTrace =
    (loc : ℕ → List ℕ) (letters processes : ℕ) (scripts : ℕ → List ℕ) (w : List ℕ) →
    IsAlphabet loc letters processes → Fits loc letters scripts w →
    AreEquivalent loc (w ++ weave loc letters processes (rests loc scripts w)) (weave loc letters processes scripts)

-- so the counts of the word and of what is left add up
abbrev pub CountsAddUp : Type 0
CountsAddUp =
    (loc : ℕ → List ℕ) (letters processes : ℕ) (scripts : ℕ → List ℕ) (w : List ℕ) (p : ℕ) →
    IsAlphabet loc letters processes → Fits loc letters scripts w →
    length (projection loc p w) + length (projection loc p (weave loc letters processes (rests loc scripts w))) ≡
    length (projection loc p (weave loc letters processes scripts))

-- what is left of a trace-closed language is trace-closed
abbrev pub RestIsClosed : Type 0
RestIsClosed =
    (loc : ℕ → List ℕ) (d : Automaton) (w : List ℕ) →
    IsWord d.letters w → IsTraceClosed loc d → IsTraceClosed loc (after d w)

-- and what is left of it gives to what is left of the scripts the answer that it gives to the scripts
abbrev pub RestHasTheAnswer : Type 0
RestHasTheAnswer =
    (loc : ℕ → List ℕ) (processes : ℕ) (d : Automaton) (scripts : ℕ → List ℕ) (w : List ℕ) (answer : Answer) →
    IsAlphabet loc d.letters processes → IsTraceClosed loc d → Fits loc d.letters scripts w →
    (IsAnswer loc (after d w) (rests loc scripts w) answer ↔ IsAnswer loc d scripts answer)

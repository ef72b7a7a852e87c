-- Confluence of weaving, and the answer by the weave alone.
use Rattle.std.specs.Prelude.{ℕ, List, ◌↔◌, IsTrue, IsFalse}
use Rattle.za_alpha.specs.Words.{IsAlphabet, IsWord, AreEquivalent}
use Rattle.za_dfa.specs.Automata.{Automaton, is_accepted, IsTraceClosed}
use Rattle.za_script.specs.declared.answer.Answer.TheVariants.{Accept, Reject, Stuck}
use Rattle.za_script.specs.Scripts.{weave, Weaves, FitsMaximally}
use Rattle.za_script.specs.Woven.{WovenWord}
use Rattle.za_script.specs.Answer.{IsAnswer, answer_by}

-- the weave fits the scripts maximally
abbrev pub WeaveIsMaximal : Type 0
WeaveIsMaximal =
    (loc : ℕ → List ℕ) (letters processes : ℕ) (scripts : ℕ → List ℕ) → IsAlphabet loc letters processes →
    FitsMaximally loc letters scripts (weave loc letters processes scripts)

-- the words that fit the scripts maximally are those that are equivalent to the weave
abbrev pub MaximalWordsAreOneTrace : Type 0
MaximalWordsAreOneTrace =
    (loc : ℕ → List ℕ) (letters processes : ℕ) (scripts : ℕ → List ℕ) (w : List ℕ) →
    IsAlphabet loc letters processes →
    (FitsMaximally loc letters scripts w ↔
    (IsWord letters w × AreEquivalent loc w (weave loc letters processes scripts)))

-- if some word weaves the scripts, the weave does
abbrev pub WeaveDecides : Type 0
WeaveDecides =
    (loc : ℕ → List ℕ) (letters processes : ℕ) (scripts : ℕ → List ℕ) (w : List ℕ) →
    IsAlphabet loc letters processes → Weaves loc letters scripts w →
    Weaves loc letters scripts (weave loc letters processes scripts)

-- if the weave weaves the scripts, each word that fits them maximally does
abbrev pub MaximalWordsWeave : Type 0
MaximalWordsWeave =
    (loc : ℕ → List ℕ) (letters processes : ℕ) (scripts : ℕ → List ℕ) (w : List ℕ) →
    IsAlphabet loc letters processes →
    Weaves loc letters scripts (weave loc letters processes scripts) → FitsMaximally loc letters scripts w →
    Weaves loc letters scripts w

-- the answer is accept exactly if the weave weaves the scripts and is accepted
abbrev pub AcceptIsOfTheWeave : Type 0
AcceptIsOfTheWeave =
    (loc : ℕ → List ℕ) (processes : ℕ) (d : Automaton) (scripts : ℕ → List ℕ) →
    IsAlphabet loc d.letters processes → IsTraceClosed loc d →
    let w = weave loc d.letters processes scripts in
    (IsAnswer loc d scripts Accept ↔ (Weaves loc d.letters scripts w × IsTrue (is_accepted d w)))

-- the answer is reject exactly if the weave weaves the scripts and is not accepted
abbrev pub RejectIsOfTheWeave : Type 0
RejectIsOfTheWeave =
    (loc : ℕ → List ℕ) (processes : ℕ) (d : Automaton) (scripts : ℕ → List ℕ) →
    IsAlphabet loc d.letters processes → IsTraceClosed loc d →
    let w = weave loc d.letters processes scripts in
    (IsAnswer loc d scripts Reject ↔ (Weaves loc d.letters scripts w × IsFalse (is_accepted d w)))

-- the answer is stuck exactly if the weave does not weave the scripts
abbrev pub StuckIsOfTheWeave : Type 0
StuckIsOfTheWeave =
    (loc : ℕ → List ℕ) (processes : ℕ) (d : Automaton) (scripts : ℕ → List ℕ) →
    IsAlphabet loc d.letters processes →
    (IsAnswer loc d scripts Stuck ↔ (Weaves loc d.letters scripts (weave loc d.letters processes scripts) → ⊥))

-- the answer that a word gives is the answer, if it fits the scripts maximally, as the weave does, and says rightly
-- whether it weaves them
abbrev pub MaximalWordsHaveTheAnswer : Type 0
MaximalWordsHaveTheAnswer =
    (loc : ℕ → List ℕ) (processes : ℕ) (d : Automaton) (scripts : ℕ → List ℕ) (woven : WovenWord) →
    IsAlphabet loc d.letters processes → IsTraceClosed loc d → FitsMaximally loc d.letters scripts woven.word →
    (IsTrue woven.whole ↔ Weaves loc d.letters scripts woven.word) → IsAnswer loc d scripts (answer_by d woven)

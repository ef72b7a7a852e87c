-- The texts of verdicts on claims.
use Rattle.std.specs.Prelude.{ℕ, List, [], ◌∷◌, Option, Some, None, codes, decimal}
use Rattle.za_alpha.specs.Alphabet.{DistributedAlphabet, name_at}
use Rattle.za_text.specs.Printed.{text_of}
use Rattle.za_claim.specs.Printed.{answer_word}
use Rattle.za_min.specs.declared.live.Hope.{Hope}
use Rattle.za_audit.specs.declared.verdict.Audit.{Audit}
use Rattle.za_audit.specs.declared.verdict.Audit.TheVariants.{Yes, BadLetter, BadLabel, NotMaximal, WrongAnswer}
use Rattle.za_report.specs.Texts.{hope_word}

-- the hope, where there is one
abbrev pub hope_words : Option Hope → List (List ℕ)
hope_words None = []
hope_words (Some hope) = hope_word hope ∷ []

-- what a verdict says, after the first word
abbrev pub verdict_words : DistributedAlphabet → Audit → List (List ℕ)
verdict_words alphabet (Yes hope) = codes "yes" ∷ hope_words hope
verdict_words alphabet (BadLetter at) = codes "bad" ∷ codes "letter" ∷ decimal at ∷ []
verdict_words alphabet (BadLabel at) = codes "bad" ∷ codes "label" ∷ decimal at ∷ []
verdict_words alphabet (NotMaximal letter) =
    codes "not" ∷ codes "maximal" ∷ name_at alphabet.letters letter.0 ∷ []
verdict_words alphabet (WrongAnswer defined) = codes "wrong" ∷ codes "answer" ∷ answer_word defined ∷ []

-- the text of a verdict
abbrev pub audit_text : DistributedAlphabet → Audit → List ℕ
audit_text alphabet audit = text_of ((codes "audit" ∷ verdict_words alphabet audit) ∷ [])

-- A claim has one verdict.
use Rattle.std.proofs.Common.{◌≡◌, ℕ, ◌<◌, true, false, inl, inr, List, length, sym, ap, subst, ◌∙◌, refl, arith}
use Rattle.std.proofs.lemmas.Bool.{and_parts, cases_lt}
use Rattle.za_script.specs.declared.answer.Answer.{Answer}
use Rattle.za_script.specs.declared.answer.Answer.TheVariants.{Accept, Reject, Stuck}
use Rattle.std.proofs.Common.{nat_lt, ltb-true}
use Rattle.za_alpha.specs.Alphabet.{loc_of}
use Rattle.za_script.specs.Scripts.{is_enabled}
use Rattle.za_script.specs.ScriptLists.{script_of}
use Rattle.za_hope.proofs.Hoping.{hopes_are_one}
use Rattle.za_lang.specs.Jobs.{JobData}
use Rattle.za_claim.specs.declared.claim.Event.{Event}
use Rattle.za_claim.specs.Claims.{ClaimData, event_letters}
use Rattle.za_audit.specs.declared.verdict.Audit.{Audit}
use Rattle.za_audit.specs.declared.verdict.Audit.TheVariants.{Yes, BadLetter, BadLabel, NotMaximal, WrongAnswer}
use Rattle.za_audit.specs.Laws.{VerdictsAreOne}
use Rattle.za_audit.specs.Private.Standing.{IsFault}
use Rattle.za_audit.specs.Verdicts.{IsRight, AreRight, HasBadLetter, HasBadLabel, AreWhole, IsLeastLeft, IsAnswerOf, IsVerdict, NamesLetterOf, can_fire}
use Rattle.za_audit.specs.Verdicts.{event_letter}
use Rattle.za_audit.specs.Verdicts.{automaton, letters_before}

-- a job has one answer
pub answers-one : (job : JobData) (a b : Answer) → IsAnswerOf job a → IsAnswerOf job b → a ≡ b
answers-one job Accept Accept x y = refl
answers-one job Reject Reject x y = refl
answers-one job Stuck Stuck x y = refl
answers-one job Accept Reject x y = absurd (let e : true ≡ false = sym x.2 ∙ y.1 x.0 x.1 in cc)
answers-one job Accept Stuck x y = absurd (y x.0 x.1)
answers-one job Reject Accept x y = absurd (let e : true ≡ false = sym y.2 ∙ x.1 y.0 y.1 in cc)
answers-one job Reject Stuck x y = absurd (y x.0.0 x.0.1)
answers-one job Stuck Accept x y = absurd (x y.0 y.1)
answers-one job Stuck Reject x y = absurd (x y.0.0 y.0.1)

-- a verdict on events that aren't all right is one on each claim of them
pub fault-verdict : (job : JobData) (claim : ClaimData) (a : Audit) → IsFault job claim.events a → IsVerdict job claim a
fault-verdict job claim (BadLetter at) h = h
fault-verdict job claim (BadLabel at) h = h
fault-verdict job claim (Yes hope) h = absurd h
fault-verdict job claim (NotMaximal letter) h = absurd h
fault-verdict job claim (WrongAnswer defined) h = absurd h

-- the first event that isn't right
record IsFirstWrong (job : JobData) (events : List Event) (at : ℕ) : Type 0 where
  within : at < length events
  before : AreRight job events at
  wrong : IsRight job events at → ⊥

letter-wrong : (job : JobData) (events : List Event) (at : ℕ) → HasBadLetter job events at → IsFirstWrong job events at
letter-wrong job events at h = record { within = h.within; before = h.before; wrong = λ r. let e : true ≡ false = sym r.letter ∙ h.letter in cc }

label-wrong : (job : JobData) (events : List Event) (at : ℕ) → HasBadLabel job events at → IsFirstWrong job events at
label-wrong job events at h = record { within = h.within; before = h.before; wrong = λ r. h.label r.label }

wrong-one : (job : JobData) (events : List Event) (a b : ℕ) → IsFirstWrong job events a → IsFirstWrong job events b → a ≡ b
wrong-one job events a b x y =
    elim (cases_lt a b) [
      | inl l ↦ absurd (x.wrong (y.before a l))
      | inr g ↦ elim (cases_lt b a) [
        | inl l ↦ absurd (y.wrong (x.before b l))
        | inr h ↦ omega arith
      ]
    ]

wrong-right : (job : JobData) (events : List Event) (a : ℕ) → IsFirstWrong job events a → AreRight job events (length events) → ⊥
wrong-right job events a x r = x.wrong (r a x.within)

letter-label : (job : JobData) (events : List Event) (a b : ℕ) → HasBadLetter job events a → HasBadLabel job events b → ⊥
letter-label job events a b x y =
    let e : a ≡ b = wrong-one job events a b (letter-wrong job events a x) (label-wrong job events b y) in
    let k = subst (λ i. can_fire job (letters_before events i) (event_letter events i) ≡ true) (sym e) y.letter in
    let f : true ≡ false = sym k ∙ x.letter in cc

left-one : (job : JobData) (events : List Event) (a b : ℕ) → IsLeastLeft job events a → IsLeastLeft job events b → a ≡ b
left-one job events a b x y =
    elim (cases_lt a b) [
      | inl l ↦ absurd (let f : true ≡ false = sym x.fires ∙ y.below a l in cc)
      | inr g ↦ elim (cases_lt b a) [
        | inl l ↦ absurd (let f : true ≡ false = sym y.fires ∙ x.below b l in cc)
        | inr h ↦ omega arith
      ]
    ]

left-whole : (job : JobData) (events : List Event) (a : ℕ) → IsLeastLeft job events a → AreWhole job events → ⊥
left-whole job events a x y = let f : true ≡ false = sym x.fires ∙ y.none a in cc

-- a verdict names a letter of the alphabet
pub verdict_names : (job : JobData) (claim : ClaimData) (a : Audit) → IsVerdict job claim a → NamesLetterOf job.lang.alphabet a
verdict_names job claim (Yes hope) h = tt
verdict_names job claim (BadLetter at) h = tt
verdict_names job claim (BadLabel at) h = tt
verdict_names job claim (WrongAnswer defined) h = tt
verdict_names job claim (NotMaximal letter) h =
    let enabled = is_enabled (loc_of job.lang.alphabet) (script_of job.scripts) (event_letters claim.events) letter.0 in
    ltb-true letter.0 (length job.lang.alphabet.letters) (and_parts (nat_lt letter.0 (length job.lang.alphabet.letters)) enabled h.fires).0

pub verdicts_are_one : VerdictsAreOne
verdicts_are_one job claim (BadLetter a) (BadLetter b) x y =
    ap BadLetter (wrong-one job claim.events a b (letter-wrong job claim.events a x) (letter-wrong job claim.events b y))
verdicts_are_one job claim (BadLetter a) (BadLabel b) x y = absurd (letter-label job claim.events a b x y)
verdicts_are_one job claim (BadLetter a) (Yes h) x y = absurd (wrong-right job claim.events a (letter-wrong job claim.events a x) y.0.right)
verdicts_are_one job claim (BadLetter a) (NotMaximal l) x y = absurd (wrong-right job claim.events a (letter-wrong job claim.events a x) y.right)
verdicts_are_one job claim (BadLetter a) (WrongAnswer d) x y = absurd (wrong-right job claim.events a (letter-wrong job claim.events a x) y.0.right)
verdicts_are_one job claim (BadLabel a) (BadLetter b) x y = absurd (letter-label job claim.events b a y x)
verdicts_are_one job claim (BadLabel a) (BadLabel b) x y =
    ap BadLabel (wrong-one job claim.events a b (label-wrong job claim.events a x) (label-wrong job claim.events b y))
verdicts_are_one job claim (BadLabel a) (Yes h) x y = absurd (wrong-right job claim.events a (label-wrong job claim.events a x) y.0.right)
verdicts_are_one job claim (BadLabel a) (NotMaximal l) x y = absurd (wrong-right job claim.events a (label-wrong job claim.events a x) y.right)
verdicts_are_one job claim (BadLabel a) (WrongAnswer d) x y = absurd (wrong-right job claim.events a (label-wrong job claim.events a x) y.0.right)
verdicts_are_one job claim (NotMaximal l) (BadLetter b) x y = absurd (wrong-right job claim.events b (letter-wrong job claim.events b y) x.right)
verdicts_are_one job claim (NotMaximal l) (BadLabel b) x y = absurd (wrong-right job claim.events b (label-wrong job claim.events b y) x.right)
verdicts_are_one job claim (NotMaximal l) (Yes h) x y = absurd (left-whole job claim.events l.0 x y.0)
verdicts_are_one job claim (NotMaximal l) (NotMaximal m) x y = ap (λ (n : ℕ). NotMaximal (record { 0 = n })) (left-one job claim.events l.0 m.0 x y)
verdicts_are_one job claim (NotMaximal l) (WrongAnswer d) x y = absurd (left-whole job claim.events l.0 x y.0)
verdicts_are_one job claim (Yes g) (BadLetter b) x y = absurd (wrong-right job claim.events b (letter-wrong job claim.events b y) x.0.right)
verdicts_are_one job claim (Yes g) (BadLabel b) x y = absurd (wrong-right job claim.events b (label-wrong job claim.events b y) x.0.right)
verdicts_are_one job claim (Yes g) (Yes h) x y =
    ap Yes (hopes_are_one (loc_of job.lang.alphabet) job.lang.alphabet.processes (automaton job) (script_of job.scripts) claim.answer g h x.2 y.2)
verdicts_are_one job claim (Yes g) (NotMaximal l) x y = absurd (left-whole job claim.events l.0 y x.0)
verdicts_are_one job claim (Yes g) (WrongAnswer d) x y = absurd (y.2 (answers-one job d claim.answer y.1 x.1))
verdicts_are_one job claim (WrongAnswer d) (BadLetter b) x y = absurd (wrong-right job claim.events b (letter-wrong job claim.events b y) x.0.right)
verdicts_are_one job claim (WrongAnswer d) (BadLabel b) x y = absurd (wrong-right job claim.events b (label-wrong job claim.events b y) x.0.right)
verdicts_are_one job claim (WrongAnswer d) (Yes h) x y = absurd (x.2 (answers-one job d claim.answer x.1 y.1))
verdicts_are_one job claim (WrongAnswer d) (NotMaximal l) x y = absurd (left-whole job claim.events l.0 y x.0)
verdicts_are_one job claim (WrongAnswer d) (WrongAnswer e) x y = ap WrongAnswer (answers-one job d e x.1 y.1)

-- What an audit says of a claim about a run of a job.
use Rattle.std.specs.Prelude.{◌≡◌, ◌≢◌, ℕ, ◌+◌, ◌<◌, ◌&&◌, nat_lt, Bool, List, length, take, slice_index}
use Rattle.std.specs.Prelude.{IsTrue, IsFalse}
use Rattle.za_alpha.specs.Alphabet.{DistributedAlphabet, loc_of}
use Rattle.za_dfa.specs.Automata.{Automaton}
use Rattle.za_dfa.specs.Partials.{completion}
use Rattle.za_dfa.specs.Tables.{automaton_of}
use Rattle.za_order.specs.Labels.{label}
use Rattle.za_script.specs.declared.answer.Answer.{Answer}
use Rattle.za_script.specs.Answer.{IsAnswer}
use Rattle.za_script.specs.ScriptLists.{script_of}
use Rattle.za_script.specs.Scripts.{is_enabled}
use Rattle.za_hope.specs.Jobs.{HasHope}
use Rattle.za_lang.specs.Jobs.{JobData}
use Rattle.za_claim.specs.declared.claim.Event.{Event}
use Rattle.za_claim.specs.Claims.{ClaimData, event_letters, claimed_label}
use Rattle.za_audit.specs.declared.verdict.Audit.{Audit}
use Rattle.za_audit.specs.declared.verdict.Audit.TheVariants.{Yes, BadLetter, BadLabel, NotMaximal, WrongAnswer}

-- the automaton of the job's language, completed
abbrev pub automaton : JobData → Automaton
automaton job = automaton_of (completion job.lang)

-- whether the letter can fire after the word: it is one of the alphabet, and the next letter of each of its processes
abbrev pub can_fire : JobData → List ℕ → ℕ → Bool
can_fire job w a =
    nat_lt a (length job.lang.alphabet.letters) && is_enabled (loc_of job.lang.alphabet) (script_of job.scripts) w a

-- the letter of the event at i, and the letters before it
abbrev pub event_letter : List Event → ℕ → ℕ
event_letter events i = slice_index (event_letters events) i

abbrev pub letters_before : List Event → ℕ → List ℕ
letters_before events i = take i (event_letters events)

-- the label by definition of the event at i, as the last event of those up to it
abbrev pub defined_label : JobData → List Event → ℕ → ℕ
defined_label job events i =
    label (loc_of job.lang.alphabet) job.lang.alphabet.processes (letters_before events (i + 1)) i

-- the event at i is right: its letter can fire after the letters before it, and its label is the defined one
pub record IsRight (job : JobData) (events : List Event) (i : ℕ) : Type 0 where
  pub letter : IsTrue (can_fire job (letters_before events i) (event_letter events i))
  pub label : claimed_label events i ≡ defined_label job events i

-- the first n events are right
abbrev pub AreRight : JobData → List Event → ℕ → Type 0
AreRight job events n = (i : ℕ) → i < n → IsRight job events i

-- the first event that isn't right has a letter that can't fire
pub record HasBadLetter (job : JobData) (events : List Event) (at : ℕ) : Type 0 where
  pub within : at < length events
  pub before : AreRight job events at
  pub letter : IsFalse (can_fire job (letters_before events at) (event_letter events at))

-- its letter can fire, but its label is another than the defined one
pub record HasBadLabel (job : JobData) (events : List Event) (at : ℕ) : Type 0 where
  pub within : at < length events
  pub before : AreRight job events at
  pub letter : IsTrue (can_fire job (letters_before events at) (event_letter events at))
  pub label : claimed_label events at ≢ defined_label job events at

-- all events are right, and this is the least letter that can fire after them
pub record IsLeastLeft (job : JobData) (events : List Event) (a : ℕ) : Type 0 where
  pub right : AreRight job events (length events)
  pub fires : IsTrue (can_fire job (event_letters events) a)
  pub below : (b : ℕ) → b < a → IsFalse (can_fire job (event_letters events) b)

-- all events are right, and no letter can fire after them
pub record AreWhole (job : JobData) (events : List Event) : Type 0 where
  pub right : AreRight job events (length events)
  pub none : (a : ℕ) → IsFalse (can_fire job (event_letters events) a)

-- the answer of the job, over all words that weave its scripts
abbrev pub IsAnswerOf : JobData → Answer → Type 0
IsAnswerOf job answer = IsAnswer (loc_of job.lang.alphabet) (automaton job) (script_of job.scripts) answer

-- the verdict on a claim
abbrev pub IsVerdict : JobData → ClaimData → Audit → Type 0
IsVerdict job claim (Yes hope) =
    AreWhole job claim.events × IsAnswerOf job claim.answer × HasHope job claim.answer hope
IsVerdict job claim (BadLetter at) = HasBadLetter job claim.events at
IsVerdict job claim (BadLabel at) = HasBadLabel job claim.events at
IsVerdict job claim (NotMaximal letter) = IsLeastLeft job claim.events letter.0
IsVerdict job claim (WrongAnswer defined) =
    AreWhole job claim.events × IsAnswerOf job defined × (defined ≢ claim.answer)

-- the letter that a verdict names, if it names one, is of the alphabet
abbrev pub NamesLetterOf : DistributedAlphabet → Audit → Type 0
NamesLetterOf alphabet (NotMaximal letter) = letter.0 < length alphabet.letters
NamesLetterOf alphabet _ = Unit {0}

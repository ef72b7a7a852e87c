-- What is due for the bytes of a text.
use Rattle.std.specs.Prelude.{◌≡◌, ℕ, Bool, true, false, List, length, codes, Option, Some, None, if◌then◌else◌}
use Rattle.za_alpha.specs.Alphabet.{loc_of}
use Rattle.za_dfa.specs.Automata.{IsTraceClosed}
use Rattle.za_dfa.specs.Tables.{CompleteDfa, automaton_of}
use Rattle.za_dfa.specs.Partials.{completion}
use Rattle.za_min.specs.Minimal.{IsMinimalOf}
use Rattle.za_closure.specs.Breaks.{Break, IsLeastBreak, left_word, right_word}
use Rattle.za_text.specs.declared.kind.TextFault.{TextFault}
use Rattle.za_lang.specs.Jobs.{JobData, IsJob}
use Rattle.za_lang.specs.Documents.{fault_of, job_of}
use Rattle.za_claim.specs.Audited.{audited_fault, audited_job, audited_claim}
use Rattle.za_claim.specs.Claims.{ClaimData}
use Rattle.za_audit.specs.declared.verdict.Audit as verdict
use Rattle.za_audit.specs.declared.verdict.Audit.TheVariants.{Yes, BadLetter, BadLabel, NotMaximal, WrongAnswer}
use Rattle.za_audit.specs.Verdicts.{IsVerdict}
use Rattle.za_script.specs.declared.answer.Answer.{Answer}
use Rattle.za_script.specs.declared.answer.Answer.TheVariants.{Accept, Reject, Stuck}
use Rattle.za_script.specs.Answer.{IsAnswer}
use Rattle.za_script.specs.Scripts.{FitsMaximally}
use Rattle.za_script.specs.ScriptLists.{script_of}
use Rattle.za_min.specs.declared.live.Hope.{Hope}
use Rattle.za_hope.specs.Jobs.{HasHope}
use Rattle.za_report.specs.Audits.{audit_text}
use Rattle.za_report.specs.Texts.{answer_text, check_text, open_text, refused_text}
use Rattle.za_report.specs.LocalStates.{locals_text}
pub use Rattle.za_freeze.specs.Frozen.{woven_of}
use Rattle.za_freeze.specs.Frozen.{IsAutomatonOf}
use Rattle.za_freeze.specs.Thawing.{reading_fault, frozen_job, not_own_fault, IsNotOwn}
use Rattle.zielonka.specs.Journals.{journal_text}
use Rattle.zielonka.specs.declared.request.Command.{Command}
use Rattle.zielonka.specs.declared.request.Command.TheVariants.{Solo, Run, Check, Locals, Journal, Audit, Thaw}

abbrev pub usage_text : List ℕ
usage_text = codes
    "usage: zla solo|run|check|locals|journal [--cache C], zla audit|build|news|thaw, zla gen N, zla freeze K\n"

abbrev pub too_long_text : List ℕ
too_long_text = codes "refused: more than 1048576 bytes\n"

-- what bytes say to a command: a job, and to `audit` a claim about it too. To `thaw` a frozen text says the job whose
-- processes are frozen
pub record SubjectData : Type 0 where
  pub job : JobData
  pub claim : Option ClaimData

abbrev pub subject_of : Command → List ℕ → SubjectData
subject_of Audit bytes = record { job = audited_job bytes; claim = Some (audited_claim bytes) }
subject_of Thaw bytes = record { job = frozen_job bytes; claim = None }
subject_of _ bytes = record { job = job_of bytes; claim = None }

-- the refusal of bytes that don't say so much
abbrev pub fault_for : Command → List ℕ → Option TextFault
fault_for Audit bytes = audited_fault bytes
fault_for Thaw bytes = reading_fault bytes
fault_for _ bytes = fault_of bytes

-- and to `thaw` no line of the text is another than that of the frozen text of its job and its number
abbrev pub IsOwn : Command → List ℕ → Type 0
IsOwn Thaw bytes = (d : CompleteDfa) → IsAutomatonOf (frozen_job bytes) d → not_own_fault d bytes ≡ None
IsOwn _ bytes = Unit {0}

-- the automaton as given: the completed table of the job's language
abbrev pub given : JobData → CompleteDfa
given job = completion job.lang

-- the status of an answer
abbrev pub status_of : Answer → ℕ
status_of Accept = 0
status_of Reject = 1
status_of Stuck = 3

-- whether a verdict is yes, and its status
abbrev pub is_yes : verdict.Audit → Bool
is_yes (BadLetter at) = false
is_yes (BadLabel at) = false
is_yes (NotMaximal letter) = false
is_yes (WrongAnswer defined) = false
is_yes (Yes hope) = true

abbrev pub status_of_verdict : verdict.Audit → ℕ
status_of_verdict audit = if is_yes audit then 0 else 1

-- what a command answers to a job whose language is trace-closed, and to a claim about the job where there is one
pub data IsAnswered (job : JobData) (claim : Option ClaimData) : Command → ℕ → List ℕ → Type 0 where
  -- the answer of the automaton as given to the scripts, over all words that weave them; and where it is stuck, the
  -- hope: whether some accepted word begins with a word that is equivalent to the woven one
  Ran : (cache : ℕ) (answer : Answer) (hope : Option Hope) →
      IsAnswer (loc_of job.lang.alphabet) (automaton_of (given job)) (script_of job.scripts) answer →
      HasHope job answer hope →
      IsAnswered job claim (Solo cache) (status_of answer)
      (answer_text job.naming.names job.lang.alphabet job.scripts (woven_of job) answer hope cache)
  -- on threads: what is answered on one thread
  RanOnThreads : (cache status : ℕ) (text : List ℕ) → IsAnswered job claim (Solo cache) status text →
      IsAnswered job claim (Run cache) status text
  -- how many states the minimal automaton has
  Checked : (cache : ℕ) (d : CompleteDfa) → IsMinimalOf d (given job) →
      IsAnswered job claim (Check cache) 0 (check_text job.lang.alphabet d.states cache)
  -- what each process knows after the woven word, and the state of the minimal automaton after its view
  Told : (cache : ℕ) (d : CompleteDfa) → IsMinimalOf d (given job) →
      IsAnswered job claim (Locals cache) 0 (locals_text d (woven_of job))
  -- on threads: that answer, and a word that fits the scripts maximally, with its labels. Which of these words it is
  -- the threads decide
  Recorded : (cache : ℕ) (answer : Answer) (word : List ℕ) →
      IsAnswer (loc_of job.lang.alphabet) (automaton_of (given job)) (script_of job.scripts) answer →
      FitsMaximally (loc_of job.lang.alphabet) (length job.lang.alphabet.letters) (script_of job.scripts) word →
      IsAnswered job claim (Journal cache) (status_of answer) (journal_text job.lang.alphabet word answer)
  -- the verdict on the claim
  Audited : (about : ClaimData) (audit : verdict.Audit) → claim ≡ Some about → IsVerdict job about audit →
      IsAnswered job claim Audit (status_of_verdict audit) (audit_text job.lang.alphabet audit)
  -- by what is left of the job, on threads: what is answered to the whole job on one thread, with no cache
  Thawed : (status : ℕ) (text : List ℕ) → IsAnswered job claim (Solo 0) status text →
      IsAnswered job claim Thaw status text

-- the status and the text that are due for a command and what bytes say to it
pub data IsDueFor (command : Command) (subject : SubjectData) : ℕ → List ℕ → Type 0 where
  -- the language of the job has a break: the two words of the least one
  Open : (k : Break) → IsLeastBreak (loc_of subject.job.lang.alphabet) (automaton_of (given subject.job)) k →
      IsDueFor command subject 5 (open_text subject.job.lang.alphabet (left_word k) (right_word k))
  -- it is trace-closed, and the command is answered
  Answered : (status : ℕ) (text : List ℕ) →
      IsTraceClosed (loc_of subject.job.lang.alphabet) (automaton_of (given subject.job)) →
      IsAnswered subject.job subject.claim command status text → IsDueFor command subject status text

-- the status and the text that are due for a command and these bytes
pub data IsOutput (command : Command) (bytes : List ℕ) : ℕ → List ℕ → Type 0 where
  -- they aren't what the command reads: the first wrong line, and its first kind
  Refused : (fault : TextFault) → fault_for command bytes ≡ Some fault →
      IsOutput command bytes 4 (refused_text fault)
  -- to `thaw` they say a job whose language is trace-closed, but aren't a frozen text of it: the first other line
  NotOwn : (fault : TextFault) → command ≡ Thaw → IsNotOwn bytes fault → IsOutput command bytes 4 (refused_text fault)
  -- they are
  Read : (status : ℕ) (text : List ℕ) → fault_for command bytes ≡ None → IsJob (subject_of command bytes).job →
      IsOwn command bytes → IsDueFor command (subject_of command bytes) status text →
      IsOutput command bytes status text

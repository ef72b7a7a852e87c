-- How a call begins and ends, and what is made before it is written.
use Rattle.std.specs.Prelude.{◌≡◌, ◌≢◌, ℕ, List, false, None, Option, Result, MatchResult, Vec}
use Rattle.std.specs.declared.alloc.Global.{Global}
use Rattle.za_alpha.specs.declared.fault.OutOfMemory.{OutOfMemory}
use Rattle.za_base.specs.Ends.{Ends}
use Rattle.za_lang.specs.Answers.{data_of}
use Rattle.za_lang.specs.Jobs.{JobData, IsJob}
use Rattle.za_min.specs.Minimal.{IsMinimalOf}
use Rattle.za_table.specs.Ends.{EndedState}
use Rattle.za_freeze.specs.declared.thawing.Thawed.{Thawed}
use Rattle.za_freeze.specs.Frozen.{IsThawed}
use Rattle.zielonka.specs.Output.{IsDueFor, IsOutput, SubjectData, fault_for, subject_of, given}
use Rattle.zielonka.specs.Run.{HasRun, HasSaid, ReadAll, WroteNothing}
use Rattle.zielonka.specs.Shown.{runs_scripts, shown_as, IsClosed, AreClosedJob, IsMadeBy, IsMadeByRest, IsShown}
use Rattle.zielonka.specs.declared.judging.ClosedJob.{ClosedJob}
use Rattle.zielonka.specs.declared.judging.Judged.{Judged}
use Rattle.zielonka.specs.declared.judging.Subject.{Subject}
use Rattle.zielonka.specs.declared.judging.Judged.TheVariants.{Refused, Ready, Rest}
use Rattle.zielonka.specs.declared.due.Output.{Output}
use Rattle.zielonka.specs.declared.request.Command.{Command}
use Rattle.zielonka.specs.declared.request.Command.TheVariants.{Thaw}
use Rattle.zielonka.specs.declared.request.Request.{Request}
use Rattle.zielonka.specs.declared.request.Request.TheVariants.{Answer as Asks}
use Rattle.zielonka.specs.declared.run.Begun.{Begun}
use Rattle.zielonka.specs.declared.run.Begun.TheVariants.{Over, Asked}
use Rattle.zielonka.specs.declared.run.Begun.TheVariants.{Rest as AskedRest}
use Rattle.zielonka.specs.declared.status.Outcome.{Outcome}
use Rattle.zielonka.specs.declared.status.Shown.{Shown}
use Rattle.zielonka.specs.declared.status.Shown.TheVariants.{Nothing}

-- what a subject says, and what a job says that is ready
abbrev pub subject_in : Subject → SubjectData
subject_in subject = record { job = data_of subject.job; claim = subject.claim }

abbrev pub subject_at : ClosedJob → SubjectData
subject_at it = record { job = data_of it.job; claim = it.claim }

-- it is a job, its language is trace-closed, and the automaton is the minimal one of its language
pub record IsCompiled (it : ClosedJob) : Type 0 where
  pub job : IsJob (data_of it.job)
  pub minimal : IsMinimalOf it.closed (given (data_of it.job))
  pub closed : IsClosed (data_of it.job)

-- a frozen text comes to what is left of its job
pub record IsRestBy (bytes : List ℕ) (it : Thawed) : Type 0 where
  pub job : IsJob (data_of it.job)
  pub thawed : IsThawed bytes (data_of it.job) it.closed it.rest

-- it is left of a job by some frozen text
abbrev pub IsRest : Thawed → Type 0
IsRest it = (bytes : List ℕ) × IsRestBy bytes it

-- what a job comes to: it is answered by its two words whatever the command is, or it is ready
abbrev pub IsJudged : SubjectData → Judged → Type 0
IsJudged subject (Refused said) =
    ((command : Command) → IsDueFor command subject said.status said.text.items) × ¬ IsClosed subject.job
IsJudged subject (Ready it) = IsCompiled it × (subject_at it ≡ subject)
IsJudged subject (Rest it) = ⊥

-- what bytes come to: they are refused, or they say a job that is ready, or to `thaw` what is left of one
abbrev pub AreJudged : Command → List ℕ → Judged → Type 0
AreJudged command bytes (Refused said) =
    IsOutput command bytes said.status said.text.items × ¬ AreClosedJob command bytes
AreJudged command bytes (Ready it) =
    IsCompiled it × (fault_for command bytes ≡ None) × (subject_at it ≡ subject_of command bytes) × (command ≢ Thaw)
AreJudged command bytes (Rest it) = (command ≡ Thaw) × IsRestBy bytes it

-- the text for a job is made of what is shown: of a finished run, or of none, where no scripts are to be run
pub data IsMadeOfShown (command : Command) (job : JobData) (text : List ℕ) : Shown → Type 0 where
  OfRun : (run : EndedState) → IsMadeBy command job text run → IsMadeOfShown command job text (shown_as command run)
  OfNone : runs_scripts command ≡ false → IsMadeOfShown command job text Nothing

-- and the text for what is left of a job is: of the finished run of a hall
abbrev pub IsRestMadeOfShown : List ℕ → JobData → List ℕ → Shown → Type 0
IsRestMadeOfShown bytes job text shown =
    (run : EndedState) × (shown ≡ shown_as Thaw run) × IsMadeByRest bytes job text run

-- what a call did of which this was asked, and how it ended
pub record HasEnded (asked : Request) (old new : Ends) (outcome : Outcome) : Type 0 where
  pub ran : HasRun asked old new outcome.status.0
  pub shown : IsShown asked old new outcome.status.0 outcome.shown

-- how the source is read for what is asked of its bytes: these are all, and nothing was written, or the call is over
abbrev pub HasFetched : Request → Ends → Ends → Result (Vec ℕ Global) Outcome → Type 0
HasFetched asked old new fetched =
    MatchResult fetched (λ bytes. ReadAll old new bytes.items × WroteNothing old new) (HasEnded asked old new)

-- a command is asked for, all bytes were read, and they come to this; nothing was written
pub record IsAsked (asked : Request) (old new : Ends) (command : Command) (judged : Judged) : Type 0 where
  pub asks : asked ≡ Asks command
  pub bytes : List ℕ
  pub all : ReadAll old new bytes
  pub nothing : WroteNothing old new
  pub is : AreJudged command bytes judged

-- how a call begins: it is over, or a job is to be answered, or what is left of one
abbrev pub HasBegun : Request → Ends → Ends → Begun → Type 0
HasBegun asked old new (Over outcome) = HasEnded asked old new outcome
HasBegun asked old new (Asked command it) = IsAsked asked old new command (Ready it)
HasBegun asked old new (AskedRest it) = IsAsked asked old new Thaw (Rest it)

-- how an answer is told: what was made is said and shown, and where memory was refused nothing is
abbrev pub HasTold : Result Output OutOfMemory → Option (List ℕ) → Option (List ℕ) → ℕ → ℕ → Outcome → Type 0
HasTold made written now before after outcome =
    MatchResult made
    (λ output. HasSaid output.said.status output.said.text.items written now before after outcome.status.0
    × (outcome.shown ≡ output.shown))
    (λ none. (outcome.status.0 ≡ 8) × (outcome.shown ≡ Nothing) × (now ≡ written) × (after ≡ before))

-- What is shown, and how a call ends, by what was made and what was said.
use Rattle.std.proofs.Common.{◌≡◌, ℕ, ◌≤◌, ◌+◌, true, false, List, length, Option, None, Result, Ok, Err, refl, sym, ap, subst, ◌∙◌, arith}
use Rattle.std.specs.Prelude.{IfOk, is_some}
use Rattle.std.specs.Io.KnownBytes.{Consumes, IsAtEnd}
use Rattle.za_alpha.specs.declared.fault.OutOfMemory.{OutOfMemory}
use Rattle.za_base.specs.Ends.{Ends}
use Rattle.za_lang.specs.Answers.{data_of}
use Rattle.za_lang.specs.Jobs.{JobData, IsJob}
use Rattle.za_claim.specs.Claims.{ClaimData}
use Rattle.za_freeze.specs.declared.thawing.Thawed.{Thawed}
use Rattle.za_freeze.specs.Thawing.{frozen_job}
use Rattle.za_gen.specs.Generated.{generated_text}
use Rattle.zielonka.specs.Limits.{most_bytes}
use Rattle.zielonka.specs.Output.{IsAnswered, Answered, IsOutput, Read, SubjectData, subject_of}
use Rattle.zielonka.specs.Run.{reads_bytes, IsOutputOf, ReadNothing, ReadAsAsked, ReadAll, ReadTooMany, WroteNothing, HasSaid, IsDue, Said, HasRun, NoMemory}
use Rattle.zielonka.specs.Shown.{runs_scripts, IsClosed, AreClosedJob, IsMadeByRest, is_of_a_run, IsShown, Finished, FinishedRest, Unshown}
use Rattle.zielonka.specs.Private.Saying.{subject_at, IsRestBy, IsMadeOfShown, OfRun, OfNone, IsRestMadeOfShown, HasEnded, IsAsked, HasTold}
use Rattle.zielonka.specs.declared.due.Output.{Output}
use Rattle.zielonka.specs.declared.judging.ClosedJob.{ClosedJob}
use Rattle.zielonka.specs.declared.judging.Judged.TheVariants.{Ready, Rest}
use Rattle.zielonka.specs.declared.request.Command.{Command}
use Rattle.zielonka.specs.declared.request.Command.TheVariants.{Audit, Thaw}
use Rattle.zielonka.specs.declared.request.Request.{Request}
use Rattle.zielonka.specs.declared.request.Request.TheVariants.{Answer as Asks, Generate as AsksJob}
use Rattle.zielonka.specs.declared.status.Outcome.{Outcome}
use Rattle.zielonka.specs.declared.status.Shown.{Shown}
use Rattle.zielonka.specs.declared.status.Shown.TheVariants.{Nothing}
use Rattle.zielonka.proofs.Causes.{read-not-job, one-command, taken_within, all_taken}
use Rattle.zielonka.proofs.DueLemmas.{ok_map, ok_and}
use Rattle.zielonka.proofs.FrozenLemmas.{own-whole, left-says, left-closed}
use Rattle.zielonka.proofs.RunLemmas.{said-run, said-job, reads-unread}

module _ (asked : Request) (old new : Ends) (status : ℕ) where
  -- with another status nothing is shown
  pub none-by-status : is_of_a_run status ≡ false → IsShown asked old new status Nothing
  none-by-status other = Unshown (λ command bytes asks runs told few closed h. absurd (let both : true ≡ false = sym h ∙ other in cc))

  -- nor where something else is asked for
  pub none-by-request : ((command : Command) → asked ≡ Asks command → ⊥) → IsShown asked old new status Nothing
  none-by-request other = Unshown (λ command bytes asks runs told few closed h. other command asks)

  -- nor where too many bytes were read
  pub none-by-length : ReadTooMany old new → IsShown asked old new status Nothing
  none-by-length many = Unshown (λ command bytes asks runs told few closed h.
      let within : length many.0.0 ≤ length bytes = taken_within bytes many.0.0 new.left (subst (λ left. Consumes left new.left many.0.0) told many.0.1.0) in
      let size : length many.0.0 ≡ most_bytes + 1 = many.0.1.1 in omega arith)

  -- nor where all bytes were read, and they are no job with a trace-closed language
  pub none-by-bytes : (command : Command) (bytes : List ℕ) → asked ≡ Asks command → ReadAll old new bytes → ¬ AreClosedJob command bytes →
      IsShown asked old new status Nothing
  none-by-bytes command bytes asks all none = Unshown (λ other told-bytes also runs told few closed h.
      let same : bytes ≡ told-bytes = all_taken told-bytes bytes new.left (subst (λ left. Consumes left new.left bytes) told all.1) all.2 in
      let one : other ≡ command = one-command other command also asks in
      none (subst (λ c. AreClosedJob c bytes) one (subst (AreClosedJob other) (sym same) closed)))

  -- what is shown where all bytes were read and what is due was said
  pub shown-by : (command : Command) (bytes text : List ℕ) (due : ℕ) (shown : Shown) → asked ≡ Asks command → ReadAll old new bytes →
      AreClosedJob command bytes →
      IsOutput command bytes due text → HasSaid due text old.written new.written old.write_faults new.write_faults status →
      IsMadeOfShown command (subject_of command bytes).job text shown → IsShown asked old new status shown
  shown-by command bytes text due shown asks all are output said (OfRun run by) = Finished command bytes text due run asks all are by output said
  shown-by command bytes text due shown asks all are output said (OfNone none) = Unshown (λ other told-bytes also runs told few closed h.
      let one : other ≡ command = one-command other command also asks in
      absurd (let both : true ≡ false = sym runs ∙ ap runs_scripts one ∙ none in cc))

module _ (asked : Request) (old new : Ends) (outcome : Outcome) where
  -- a call ends that says nothing
  pub ended-silent : (status : ℕ) → outcome.status.0 ≡ status → outcome.shown ≡ Nothing → HasRun asked old new status → is_of_a_run status ≡ false →
      HasEnded asked old new outcome
  ended-silent status is shows run other = record {
    ran = subst (HasRun asked old new) (sym is) run;
    shown = subst (IsShown asked old new outcome.status.0) (sym shows) (none-by-status asked old new outcome.status.0 (ap is_of_a_run is ∙ other));
  }

  -- or that shows nothing
  pub ended-telling : (status : ℕ) (text : List ℕ) → IsDue asked old new status text →
      HasSaid status text old.written new.written old.write_faults new.write_faults outcome.status.0 →
      outcome.shown ≡ Nothing → IsShown asked old new outcome.status.0 Nothing → HasEnded asked old new outcome
  ended-telling status text due said shows none = record {
    ran = said-run asked old new status text due said;
    shown = subst (IsShown asked old new outcome.status.0) (sym shows) none;
  }

  -- or that was asked for a generated job
  pub ended-job : (number : ℕ) (text : List ℕ) → asked ≡ AsksJob number → ReadNothing old new → text ≡ generated_text number →
      HasSaid 0 text old.written new.written old.write_faults new.write_faults outcome.status.0 → outcome.shown ≡ Nothing → HasEnded asked old new outcome
  ended-job number text asks nothing is said shows = record {
    ran = said-job asked old new number text asks nothing is said;
    shown = subst (IsShown asked old new outcome.status.0) (sym shows)
        (none-by-request asked old new outcome.status.0 (λ command reads. read-not-job number (ap reads_bytes reads) asks));
  }

-- a call ends of which an answer to bytes was asked, all of which were read, with nothing written
module _ (asked : Request) (old mid new : Ends) (command : Command) (bytes : List ℕ) (outcome : Outcome)
    (asks : asked ≡ Asks command) (all : ReadAll old new bytes) (nothing : WroteNothing old mid) where
  -- it is shown whatever the status is
  abbrev Shows : Output → Type 0
  Shows output =
      (status : ℕ) → HasSaid output.said.status output.said.text.items old.written new.written old.write_faults new.write_faults status →
      IsShown asked old new status output.shown

  ended-of : (made : Result Output OutOfMemory) → IfOk made (λ output. IsOutput command bytes output.said.status output.said.text.items × Shows output) →
      HasTold made mid.written new.written mid.write_faults new.write_faults outcome → HasEnded asked old new outcome
  ended-of (Ok output) due told =
      let text : List ℕ = output.said.text.items in
      let status : ℕ = output.said.status in
      let said : HasSaid status text old.written new.written old.write_faults new.write_faults outcome.status.0 =
      subst (λ written. HasSaid status text written new.written old.write_faults new.write_faults outcome.status.0) nothing.0
      (subst (λ before. HasSaid status text mid.written new.written before new.write_faults outcome.status.0) nothing.1 told.0) in
      record {
        ran = said-run asked old new status text (Said bytes status text all (subst (λ a. IsOutputOf a bytes status text) (sym asks) due.0)) said;
        shown = subst (IsShown asked old new outcome.status.0) (sym told.1) (due.1 outcome.status.0 said);
      }
  ended-of (Err none) due told =
      let read : ReadAsAsked asked old new = ((bytes, (all.1, all.0)), λ unread. reads-unread asked (ap reads_bytes asks) unread) in
      ended-silent asked old new outcome 8 told.0 told.1 (NoMemory read all.3 (told.2 ∙ nothing.0, told.3 ∙ nothing.1)) refl

-- nothing was read since
still-all : (old mid new : Ends) (bytes : List ℕ) → new.left ≡ mid.left → new.read_faults ≡ mid.read_faults → ReadAll old mid bytes → ReadAll old new bytes
still-all old mid new bytes left faults all = (all.0, subst (λ l. Consumes old.left l bytes) (sym left) all.1, subst IsAtEnd (sym left) all.2, faults ∙ all.3)

-- a call ends of which an answer to a job was asked
module _ (asked : Request) (old mid new : Ends) (command : Command) (it : ClosedJob) (outcome : Outcome)
    (begun : IsAsked asked old mid command (Ready it)) (left : new.left ≡ mid.left) (faults : new.read_faults ≡ mid.read_faults) where
  abbrev all : ReadAll old new begun.bytes
  all = still-all old mid new begun.bytes left faults begun.all

  -- what the bytes are
  are : AreClosedJob command begun.bytes
  are = record {
    read = begun.is.1;
    job = subst (λ (s : SubjectData). IsJob s.job) begun.is.2 begun.is.0.job;
    closed = subst (λ (s : SubjectData). IsClosed s.job) begun.is.2 begun.is.0.closed;
    own = own-whole command begun.bytes begun.is.3;
  }

  abbrev Answers : Output → Type 0
  Answers output = IsAnswered (data_of it.job) it.claim command output.said.status output.said.text.items

  abbrev Makes : Output → Type 0
  Makes output = IsMadeOfShown command (data_of it.job) output.said.text.items output.shown

  due : (output : Output) → Answers output → IsOutput command begun.bytes output.said.status output.said.text.items
  due output answered =
      let text : List ℕ = output.said.text.items in
      let status : ℕ = output.said.status in
      Read status text are.read are.job are.own
      (Answered status text are.closed (subst (λ (s : SubjectData). IsAnswered s.job s.claim command status text) begun.is.2 answered))

  pub ended-by : (made : Result Output OutOfMemory) → IfOk made Answers → IfOk made Makes →
      HasTold made mid.written new.written mid.write_faults new.write_faults outcome → HasEnded asked old new outcome
  ended-by made answered by told =
      ended-of asked old mid new command begun.bytes outcome begun.asks all begun.nothing made
      (ok_map made (λ output. Answers output × Makes output) _
      (λ output h. (
        due output h.0,
        λ status said.
            shown-by asked old new status command begun.bytes output.said.text.items output.said.status output.shown begun.asks all are (due output h.0) said
            (subst (λ (s : SubjectData). IsMadeOfShown command s.job output.said.text.items output.shown) begun.is.2 h.1),
      ))
      (ok_and made Answers Makes answered by)) told

-- and one of which an answer to what is left of a job was asked
module _ (asked : Request) (old mid new : Ends) (it : Thawed) (outcome : Outcome)
    (begun : IsAsked asked old mid Thaw (Rest it)) (left : new.left ≡ mid.left) (faults : new.read_faults ≡ mid.read_faults) where
  abbrev rest-all : ReadAll old new begun.bytes
  rest-all = still-all old mid new begun.bytes left faults begun.all

  pub rest-left : IsRestBy begun.bytes it
  rest-left = begun.is.1

  rest-says : frozen_job begun.bytes ≡ data_of it.job
  rest-says = left-says begun.bytes (data_of it.job) it.closed it.rest rest-left.job rest-left.thawed

  rest-are : AreClosedJob Thaw begun.bytes
  rest-are = left-closed begun.bytes (data_of it.job) it.closed it.rest rest-left.job rest-left.thawed

  abbrev RestAnswers : Output → Type 0
  RestAnswers output = (claim : Option ClaimData) → IsAnswered (data_of it.job) claim Thaw output.said.status output.said.text.items

  abbrev RestMakes : Output → Type 0
  RestMakes output = (bytes : List ℕ) → IsRestBy bytes it → IsRestMadeOfShown bytes (data_of it.job) output.said.text.items output.shown

  rest-due : (output : Output) → RestAnswers output → IsOutput Thaw begun.bytes output.said.status output.said.text.items
  rest-due output answered =
      let text : List ℕ = output.said.text.items in
      let status : ℕ = output.said.status in
      Read status text rest-are.read rest-are.job rest-are.own
      (Answered status text rest-are.closed (subst (λ (j : JobData). IsAnswered j None Thaw status text) (sym rest-says) (answered None)))

  rest-shown : (output : Output) → RestAnswers output → RestMakes output → (status : ℕ) →
      HasSaid output.said.status output.said.text.items old.written new.written old.write_faults new.write_faults status →
      IsShown asked old new status output.shown
  rest-shown output answered makes status said =
      let text : List ℕ = output.said.text.items in
      let made = makes begun.bytes rest-left in
      let by = subst (λ (j : JobData). IsMadeByRest begun.bytes j text made.0) (sym rest-says) made.2 in
      subst (IsShown asked old new status) (sym made.1)
      (FinishedRest begun.bytes text output.said.status made.0 begun.asks rest-all rest-are by (rest-due output answered) said)

  pub ended-rest : (made : Result Output OutOfMemory) → IfOk made RestAnswers → IfOk made RestMakes →
      HasTold made mid.written new.written mid.write_faults new.write_faults outcome → HasEnded asked old new outcome
  ended-rest made answered by told =
      ended-of asked old mid new Thaw begun.bytes outcome begun.asks rest-all begun.nothing made
      (ok_map made (λ output. RestAnswers output × RestMakes output) _
      (λ output h. (rest-due output h.0, rest-shown output h.0 h.1)) (ok_and made RestAnswers RestMakes answered by)) told

-- `audit` has a claim to answer to
pub claim-there : (command : Command) (bytes : List ℕ) (it : ClosedJob) → subject_at it ≡ subject_of command bytes → command ≡ Audit → is_some it.claim ≡ true
claim-there command bytes it same e = ap (λ (s : SubjectData). is_some s.claim) (same ∙ ap (λ c. subject_of c bytes) e)

-- what is shown is told of what is asked alone
pub shown-moves : (asked other : Request) (old new : Ends) (status : ℕ) (shown : Shown) → asked ≡ other → IsShown asked old new status shown →
    IsShown other old new status shown
shown-moves asked other old new status shown e h = subst (λ a. IsShown a old new status shown) e h

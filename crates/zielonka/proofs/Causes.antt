-- The cause of each status, by cases of what a run did.
use Rattle.std.proofs.Common.{◌≡◌, ◌≢◌, ℕ, ◌+◌, ◌<◌, ◌≤◌, ◌||◌, true, false, inl, inr, ◌⊎◌, List, [], ◌∷◌, ◌++◌, length, length-append, Option, Some, None, sym}
use Rattle.std.proofs.Common.{ap, subst, ◌∙◌, refl, arith}
use Rattle.std.specs.Prelude.{◌==◌}
use Rattle.std.specs.List.{list_any}
use Rattle.std.specs.Io.KnownBytes.{Consumes, IsAtEnd}
use Rattle.std.proofs.lemmas.Bool.{or_left}
use Rattle.std.proofs.lemmas.List.{append-nil}
use Rattle.za_base.specs.Fault.{Rises}
use Rattle.za_base.specs.Ends.{Ends}
use Rattle.za_script.specs.declared.answer.Answer.{Answer}
use Rattle.za_script.specs.declared.answer.Answer.TheVariants.{Accept, Reject, Stuck}
use Rattle.zielonka.specs.declared.request.Command.{Command}
use Rattle.zielonka.specs.declared.request.Request.{Request}
use Rattle.zielonka.specs.declared.request.Request.TheVariants.{Usage as AsksUsage, Answer as Asks, Ask as AsksReply, Generate as AsksJob}
use Rattle.za_gen.specs.Generated.{generated_text}
use Rattle.zielonka.specs.Limits.{most_bytes}
use Rattle.zielonka.specs.Output.{IsOutput, Refused, NotOwn, Read, IsDueFor, Open, Answered, IsAnswered, Ran, RanOnThreads, Checked, Told, Recorded, Audited}
use Rattle.zielonka.specs.Output.{Thawed, SubjectData, usage_text, too_long_text, status_of, status_of_verdict}
use Rattle.zielonka.specs.Run.{reads_bytes, IsOutputOf, ReadNothing, ReadNotTooMany, ReadTooMany, NoReadFailed, NoWriteFailed, WroteNothing, WroteAll}
use Rattle.zielonka.specs.Run.{WrotePart, IsDue, Usage, TooLong, Generated, Said, HasRun, Wrote, WriteFault, ReadFault, NoMemory}
use Rattle.zielonka.specs.Laws.{UsageIsOfTheWords, WordsDecideTheUsage, WroteJob, WordsDecideTheJob, JobCompletes, ReadFaultIsOfTheSource}
use Rattle.zielonka.specs.Laws.{WriteFaultIsOfTheSink, CountsStay, TooLongIsOfTheBytes, TooManyDecide, TooManyComplete, NoMemoryWritesNothing, is_of_bytes}
use Rattle.zielonka.specs.Laws.{HasAnsweredAll, AnswerIsOfAllBytes, StatusesAreKnown, RunCompletes}
use Rattle.za_claim.specs.Claims.{ClaimData}
use Rattle.za_audit.specs.declared.verdict.Audit as verdict
use Rattle.za_audit.specs.declared.verdict.Audit.TheVariants.{Yes, BadLetter, BadLabel, NotMaximal, WrongAnswer}
use Rattle.za_lang.specs.Jobs.{JobData}
use Rattle.za_query.specs.declared.query.Query.{Query}
use Rattle.za_query.specs.Replies.{IsReply, Refused as ReplyRefused, Open as ReplyOpen, Built, Told as ReplyTold, Frozen}

-- an answer's status is one of those of bytes
answer-status : (answer : Answer) → is_of_bytes (status_of answer) ≡ true
answer-status Accept = refl
answer-status Reject = refl
answer-status Stuck = refl

verdict-status : (audit : verdict.Audit) → is_of_bytes (status_of_verdict audit) ≡ true
verdict-status (BadLetter at) = refl
verdict-status (BadLabel at) = refl
verdict-status (NotMaximal letter) = refl
verdict-status (WrongAnswer defined) = refl
verdict-status (Yes hope) = refl

answered-status : {job : JobData} {claim : Option ClaimData} {command : Command} {status : ℕ} {text : List ℕ} → IsAnswered job claim command status text →
    is_of_bytes status ≡ true
answered-status (Ran cache answer hope right goes) = answer-status answer
answered-status (RanOnThreads cache status text answered) = answered-status answered
answered-status (Checked cache d minimal) = refl
answered-status (Told cache d minimal) = refl
answered-status (Recorded cache answer word right fits) = answer-status answer
answered-status (Audited about audit is right) = verdict-status audit
answered-status (Thawed status text answered) = answered-status answered

-- the status that is due for a job or for bytes is one of those
due-status : {subject : SubjectData} {command : Command} {status : ℕ} {text : List ℕ} → IsDueFor command subject status text → is_of_bytes status ≡ true
due-status (Open k least) = refl
due-status (Answered status text closed answered) = answered-status answered

output-status : {command : Command} {bytes text : List ℕ} {status : ℕ} → IsOutput command bytes status text → is_of_bytes status ≡ true
output-status (Refused fault wrong) = refl
output-status (NotOwn fault thaw unlike) = refl
output-status (Read status text right job own due) = due-status due

-- and so is that of a reply
reply-status : {query : Query} {bytes text : List ℕ} {status : ℕ} → IsReply query bytes status text → is_of_bytes status ≡ true
reply-status (ReplyRefused query bytes fault wrong) = refl
reply-status (ReplyOpen query bytes job k right least) = refl
reply-status (Built bytes text built) = refl
reply-status (ReplyTold bytes job right closed) = refl
reply-status (Frozen bytes job cut d right automaton) = refl

-- so that is what is due for whatever is asked of bytes
asked-status : (asked : Request) (bytes : List ℕ) (status : ℕ) (text : List ℕ) → IsOutputOf asked bytes status text → is_of_bytes status ≡ true
asked-status AsksUsage bytes status text output = absurd output
asked-status (Asks command) bytes status text output = output-status output
asked-status (AsksReply query) bytes status text output = reply-status output
asked-status (AsksJob number) bytes status text output = absurd output

-- what is due for bytes is asked of them
asks-of-bytes : (asked : Request) (bytes : List ℕ) (status : ℕ) (text : List ℕ) → IsOutputOf asked bytes status text → reads_bytes asked ≡ true
asks-of-bytes AsksUsage bytes status text output = absurd output
asks-of-bytes (Asks command) bytes status text output = refl
asks-of-bytes (AsksReply query) bytes status text output = refl
asks-of-bytes (AsksJob number) bytes status text output = absurd output

-- a status of bytes is no other one
other : (status number : ℕ) → is_of_bytes status ≡ true → is_of_bytes number ≡ false → status ≡ number → ⊥
other status number h k e = let both : true ≡ false = sym h ∙ ap is_of_bytes e ∙ k in absurd (cc)

-- the words ask for one thing alone
pub usage-not-read : {a : Request} → a ≡ AsksUsage → reads_bytes a ≡ true → ⊥
usage-not-read u r = absurd (let both : true ≡ false = sym r ∙ ap reads_bytes u in cc)

usage-not-job : {a : Request} (number : ℕ) → a ≡ AsksUsage → a ≡ AsksJob number → ⊥
usage-not-job number u j = absurd (let both : AsksUsage ≡ AsksJob number = sym u ∙ j in cc)

pub read-not-job : {a : Request} (number : ℕ) → reads_bytes a ≡ true → a ≡ AsksJob number → ⊥
read-not-job number r j = absurd (let both : true ≡ false = sym r ∙ ap reads_bytes j in cc)

-- the command that is asked for is one, and so is the number
pub one-command : {a : Request} (c k : Command) → a ≡ Asks c → a ≡ Asks k → c ≡ k
one-command c k e f = let both : Asks c ≡ Asks k = sym e ∙ f in cc

one-number : {a : Request} (n k : ℕ) → a ≡ AsksJob n → a ≡ AsksJob k → n ≡ k
one-number n k e f = let both : AsksJob n ≡ AsksJob k = sym e ∙ f in cc

-- no more bytes are taken than there are
pub taken_within : (bytes taken : List ℕ) (now : Option (List ℕ)) → Consumes (Some bytes) now taken → length taken ≤ length bytes
taken_within bytes taken None h = absurd h
taken_within bytes taken (Some left) h = let size : length bytes ≡ length (taken ++ left) = ap length h in omega (arith, length-append taken left)

-- at the end all bytes are taken
pub all_taken : (bytes taken : List ℕ) (now : Option (List ℕ)) → Consumes (Some bytes) now taken → IsAtEnd now → taken ≡ bytes
all_taken bytes taken None h e = absurd h
all_taken bytes taken (Some left) h e = sym (h ∙ ap (λ rest. taken ++ rest) e ∙ append-nil taken)

-- what two takes took has one length, where the source tells its bytes before and after
one_length : (bytes one other : List ℕ) (now : Option (List ℕ)) → Consumes (Some bytes) now one → Consumes (Some bytes) now other → length one ≡ length other
one_length bytes one other None g h = absurd g
one_length bytes one other (Some left) g h =
    let size : length (one ++ left) ≡ length (other ++ left) = ap length (sym g ∙ h) in omega (arith, length-append one left, length-append other left)

module _ (asked : Request) (old new : Ends) where
  -- status 2, by what is due and by the run
  usage_due : {status : ℕ} {text : List ℕ} → IsDue asked old new status text → status ≡ 2 → (asked ≡ AsksUsage) × ReadNothing old new × (text ≡ usage_text)
  usage_due (Usage none nothing) e = (none, nothing, refl)
  usage_due (TooLong reads many) e = absurd (omega arith)
  usage_due (Generated number asks nothing) e = absurd (omega arith)
  usage_due (Said bytes status text all output) e = absurd (other status 2 (asked-status asked bytes status text output) refl e)

  usage_run : {status : ℕ} → HasRun asked old new status → status ≡ 2 → (asked ≡ AsksUsage) × ReadNothing old new × WroteAll old new usage_text
  usage_run (Wrote status text due whole) e = let cause = usage_due due e in (cause.0, cause.1, subst (WroteAll old new) cause.2 whole)
  usage_run (WriteFault status k text due part) e = absurd (omega arith)
  usage_run (ReadFault reads few rose nothing) e = absurd (omega arith)
  usage_run (NoMemory few same nothing) e = absurd (omega arith)

  -- words in no form
  words_due : {status : ℕ} {text : List ℕ} → IsDue asked old new status text → asked ≡ AsksUsage → status ≡ 2
  words_due (Usage none nothing) no_form = refl
  words_due (TooLong reads many) no_form = absurd (usage-not-read no_form reads)
  words_due (Generated number asks nothing) no_form = absurd (usage-not-job number no_form asks)
  words_due (Said bytes status text all output) no_form = absurd (usage-not-read no_form (asks-of-bytes asked bytes status text output))

  words_run : {status : ℕ} → HasRun asked old new status → asked ≡ AsksUsage → (status ≡ 2) ⊎ ((status ≡ 7) ⊎ (status ≡ 8))
  words_run (Wrote status text due whole) no_form = inl (words_due due no_form)
  words_run (WriteFault status k text due part) no_form = inr (inl refl)
  words_run (ReadFault reads few rose nothing) no_form = absurd (usage-not-read no_form reads)
  words_run (NoMemory few same nothing) no_form = inr (inr refl)

  -- what is due has no status of its own but 2, 9 and those of bytes
  due_status : {status : ℕ} {text : List ℕ} → IsDue asked old new status text → ((status ≡ 2) ⊎ (status ≡ 9)) ⊎ (is_of_bytes status ≡ true)
  due_status (Usage none nothing) = inl (inl refl)
  due_status (TooLong reads many) = inl (inr refl)
  due_status (Generated number asks nothing) = inr refl
  due_status (Said bytes status text all output) = inr (asked-status asked bytes status text output)

  -- so no other status is due
  never_due : (status number : ℕ) → ((status ≡ 2) ⊎ (status ≡ 9)) ⊎ (is_of_bytes status ≡ true) → number ≢ 2 → number ≢ 9 → is_of_bytes number ≡ false →
      status ≡ number → ⊥
  never_due status number (inl (inl two)) not_two not_nine k e = absurd (omega arith)
  never_due status number (inl (inr nine)) not_two not_nine k e = absurd (omega arith)
  never_due status number (inr h) not_two not_nine k e = other status number h k e

  -- status 6
  read_fault_run : {status : ℕ} → HasRun asked old new status → status ≡ 6 → (reads_bytes asked ≡ true) × ReadNotTooMany old new
      × Rises old.read_faults new.read_faults × WroteNothing old new
  read_fault_run (Wrote status text due whole) e = absurd (never_due status 6 (due_status due) (omega arith) (omega arith) refl e)
  read_fault_run (WriteFault status k text due part) e = absurd (omega arith)
  read_fault_run (ReadFault reads few rose nothing) e = (reads, few, rose, nothing)
  read_fault_run (NoMemory few same nothing) e = absurd (omega arith)

  -- status 7
  write_fault_run : {status : ℕ} → HasRun asked old new status → status ≡ 7 →
      (due k : ℕ) × (text : List ℕ) × IsDue asked old new due text × WrotePart old new text k
  write_fault_run (Wrote status text due whole) e = absurd (never_due status 7 (due_status due) (omega arith) (omega arith) refl e)
  write_fault_run (WriteFault status k text due part) e = (status, k, text, due, part)
  write_fault_run (ReadFault reads few rose nothing) e = absurd (omega arith)
  write_fault_run (NoMemory few same nothing) e = absurd (omega arith)

  -- counts that stay
  counts_due : {status : ℕ} {text : List ℕ} → IsDue asked old new status text → NoReadFailed old new
  counts_due (Usage none nothing) = nothing.1
  counts_due (TooLong reads many) = many.1
  counts_due (Generated number asks nothing) = nothing.1
  counts_due (Said bytes status text all output) = all.3

  counts_run : {status : ℕ} → HasRun asked old new status → (status ≢ 6 → NoReadFailed old new) × (status ≢ 7 → NoWriteFailed old new)
  counts_run (Wrote status text due whole) = (λ h. counts_due due, λ h. whole.1)
  counts_run (WriteFault status k text due part) = (λ h. counts_due due, λ h. absurd (h refl))
  counts_run (ReadFault reads few rose nothing) = (λ h. absurd (h refl), λ h. nothing.1)
  counts_run (NoMemory few same nothing) = (λ h. same, λ h. nothing.1)

  -- status 8
  no_memory_run : {status : ℕ} → HasRun asked old new status → status ≡ 8 → WroteNothing old new × (reads_bytes asked ≡ false → ReadNothing old new)
  no_memory_run (Wrote status text due whole) e = absurd (never_due status 8 (due_status due) (omega arith) (omega arith) refl e)
  no_memory_run (WriteFault status k text due part) e = absurd (omega arith)
  no_memory_run (ReadFault reads few rose nothing) e = absurd (omega arith)
  no_memory_run (NoMemory few same nothing) e = (nothing, λ unread. (few.1 unread, same))

  -- status 9
  too_long_due : {status : ℕ} {text : List ℕ} → IsDue asked old new status text → status ≡ 9 → (reads_bytes asked ≡ true) × ReadTooMany old new
      × (text ≡ too_long_text)
  too_long_due (Usage none nothing) e = absurd (omega arith)
  too_long_due (TooLong reads many) e = (reads, many, refl)
  too_long_due (Generated number asks nothing) e = absurd (omega arith)
  too_long_due (Said bytes status text all output) e = absurd (other status 9 (asked-status asked bytes status text output) refl e)

  too_long_run : {status : ℕ} → HasRun asked old new status → status ≡ 9 → (reads_bytes asked ≡ true) × ReadTooMany old new × WroteAll old new too_long_text
  too_long_run (Wrote status text due whole) e = let cause = too_long_due due e in (cause.0, cause.1, subst (WroteAll old new) cause.2 whole)
  too_long_run (WriteFault status k text due part) e = absurd (omega arith)
  too_long_run (ReadFault reads few rose nothing) e = absurd (omega arith)
  too_long_run (NoMemory few same nothing) e = absurd (omega arith)

  -- a run over a source that tells its bytes, of which too many were taken
  module _ (bytes : List ℕ) (told : old.left ≡ Some bytes) where
    untouched : ReadNothing old new → ReadTooMany old new → ⊥
    untouched same taken =
        let took = subst (λ left. Consumes (Some bytes) left taken.0.0) (same.0 ∙ told) (subst (λ left. Consumes left new.left taken.0.0) told taken.0.1.0) in
        let none : length taken.0.0 ≡ length {A = ℕ} [] = one_length bytes taken.0.0 [] (Some bytes) took refl in
        let size : length taken.0.0 ≡ most_bytes + 1 = taken.0.1.1 in omega arith

    many_due : {status : ℕ} {text : List ℕ} → IsDue asked old new status text → ReadTooMany old new → (status ≡ 9) ⊎ ((status ≡ 7) ⊎ (status ≡ 8))
    many_due (Usage none nothing) many = absurd (untouched nothing many)
    many_due (TooLong reads also) many = inl refl
    many_due (Generated number asks nothing) many = absurd (untouched nothing many)
    many_due (Said taken status text all output) many =
        let same : length taken ≡ length many.0.0 =
        one_length bytes taken many.0.0 new.left (subst (λ left. Consumes left new.left taken) told all.1)
        (subst (λ left. Consumes left new.left many.0.0) told many.0.1.0) in
        let few : length taken ≤ most_bytes = all.0 in
        let size : length many.0.0 ≡ most_bytes + 1 = many.0.1.1 in absurd (omega arith)

    many_run : {status : ℕ} → HasRun asked old new status → ReadTooMany old new → (status ≡ 9) ⊎ ((status ≡ 7) ⊎ (status ≡ 8))
    many_run (Wrote status text due whole) many = many_due due many
    many_run (WriteFault status k text due part) many = inr (inl refl)
    many_run (ReadFault reads few rose nothing) many =
        let same : length few.0 ≡ length many.0.0 =
        one_length bytes few.0 many.0.0 new.left (subst (λ left. Consumes left new.left few.0) told few.1.0)
        (subst (λ left. Consumes left new.left many.0.0) told many.0.1.0) in
        let less : length few.0 ≤ most_bytes = few.1.1 in
        let size : length many.0.0 ≡ most_bytes + 1 = many.0.1.1 in absurd (omega arith)
    many_run (NoMemory few same nothing) many = inr (inr refl)

    -- and one that has too many
    module _ (many : most_bytes < length bytes) (reads : reads_bytes asked ≡ true) where
      more_than_all : {status : ℕ} {text : List ℕ} → IsDue asked old new status text → (status ≡ 9) × (text ≡ too_long_text)
      more_than_all (Usage none nothing) = absurd (usage-not-read none reads)
      more_than_all (TooLong also taken) = (refl, refl)
      more_than_all (Generated number also nothing) = absurd (read-not-job number reads also)
      more_than_all (Said taken status text all output) =
          let same : taken ≡ bytes = all_taken bytes taken new.left (subst (λ left. Consumes left new.left taken) told all.1) all.2 in
          let size : length taken ≡ length bytes = ap length same in
          let few : length taken ≤ most_bytes = all.0 in absurd (omega arith)

      many_completes : {status : ℕ} → HasRun asked old new status → ¬ Rises old.read_faults new.read_faults → ¬ Rises old.write_faults new.write_faults →
          (status ≡ 8) ⊎ ((status ≡ 9) × WroteAll old new too_long_text)
      many_completes (Wrote status text due whole) no_read no_write = let is = more_than_all due in inr (is.0, subst (WroteAll old new) is.1 whole)
      many_completes (WriteFault status k text due part) no_read no_write = absurd (no_write part.2)
      many_completes (ReadFault also few rose nothing) no_read no_write = absurd (no_read rose)
      many_completes (NoMemory few same nothing) no_read no_write = inl refl

  -- a generated job
  job_due : (number : ℕ) {status : ℕ} {text : List ℕ} → IsDue asked old new status text → asked ≡ AsksJob number →
      (status ≡ 0) × ReadNothing old new × (text ≡ generated_text number)
  job_due number (Usage none nothing) asks = absurd (usage-not-job number none asks)
  job_due number (TooLong reads many) asks = absurd (read-not-job number reads asks)
  job_due number (Generated other also nothing) asks = (refl, nothing, ap generated_text (one-number other number also asks))
  job_due number (Said bytes status text all output) asks = absurd (read-not-job number (asks-of-bytes asked bytes status text output) asks)

  -- how a run ends that writes it
  abbrev JobEnds : ℕ → ℕ → Type 0
  JobEnds number status = ((status ≡ 0) × WroteJob old new number) ⊎ (((status ≡ 7) × Rises old.write_faults new.write_faults) ⊎ (status ≡ 8))

  job_run : (number : ℕ) {status : ℕ} → HasRun asked old new status → asked ≡ AsksJob number → JobEnds number status
  job_run number (Wrote status text due whole) asks = let is = job_due number due asks in inl (is.0, (is.1, subst (WroteAll old new) is.2 whole))
  job_run number (WriteFault status k text due part) asks = inr (inl (refl, part.2))
  job_run number (ReadFault reads few rose nothing) asks = absurd (read-not-job number reads asks)
  job_run number (NoMemory few same nothing) asks = inr (inr refl)

  job_decides : (number : ℕ) {status : ℕ} → JobEnds number status →
      ((status ≡ 0) × WroteJob old new number) ⊎ ((status ≡ 7) ⊎ (status ≡ 8))
  job_decides number (inl whole) = inl whole
  job_decides number (inr (inl fault)) = inr (inl fault.0)
  job_decides number (inr (inr none)) = inr (inr none)

  job_completed : (number : ℕ) {status : ℕ} → JobEnds number status →
      ¬ Rises old.write_faults new.write_faults → (status ≡ 8) ⊎ ((status ≡ 0) × WroteJob old new number)
  job_completed number (inl whole) no_write = inr whole
  job_completed number (inr (inl fault)) no_write = absurd (no_write fault.1)
  job_completed number (inr (inr none)) no_write = inl none

  -- the statuses of bytes
  abbrev WholeJob : ℕ → Type 0
  WholeJob status = (number : ℕ) × (status ≡ 0) × (asked ≡ AsksJob number) × WroteJob old new number

  all_read_due : {status : ℕ} {text : List ℕ} → IsDue asked old new status text → is_of_bytes status ≡ true → WroteAll old new text →
      HasAnsweredAll asked old new status ⊎ WholeJob status
  all_read_due (Usage none nothing) h whole = absurd (cc)
  all_read_due (TooLong reads many) h whole = absurd (cc)
  all_read_due (Generated number asks nothing) h whole = inr (number, refl, asks, (nothing, whole))
  all_read_due (Said bytes status text all output) h whole = inl (bytes, text, all, output, whole)

  all_read_run : {status : ℕ} → HasRun asked old new status → is_of_bytes status ≡ true → HasAnsweredAll asked old new status ⊎ WholeJob status
  all_read_run (Wrote status text due whole) h = all_read_due due h whole
  all_read_run (WriteFault status k text due part) h = absurd (cc)
  all_read_run (ReadFault reads few rose nothing) h = absurd (cc)
  all_read_run (NoMemory few same nothing) h = absurd (cc)

  -- each status is known
  known_due : (status : ℕ) → ((status ≡ 2) ⊎ (status ≡ 9)) ⊎ (is_of_bytes status ≡ true) →
      (is_of_bytes status || list_any (λ s. s == status) (2 ∷ 6 ∷ 7 ∷ 8 ∷ 9 ∷ [])) ≡ true
  known_due status (inl (inl two)) = rw two refl
  known_due status (inl (inr nine)) = rw nine refl
  known_due status (inr h) = or_left (is_of_bytes status) (list_any (λ s. s == status) (2 ∷ 6 ∷ 7 ∷ 8 ∷ 9 ∷ [])) h

  known_run : {status : ℕ} → HasRun asked old new status → (is_of_bytes status || list_any (λ s. s == status) (2 ∷ 6 ∷ 7 ∷ 8 ∷ 9 ∷ [])) ≡ true
  known_run (Wrote status text due whole) = known_due status (due_status due)
  known_run (WriteFault status k text due part) = refl
  known_run (ReadFault reads few rose nothing) = refl
  known_run (NoMemory few same nothing) = refl

  -- a run over a source that tells its bytes
  module _ (bytes : List ℕ) (reads : reads_bytes asked ≡ true) (told : old.left ≡ Some bytes) (few : length bytes ≤ most_bytes) where
    completes_due : {status : ℕ} {text : List ℕ} → IsDue asked old new status text → IsOutputOf asked bytes status text
    completes_due (Usage none nothing) = absurd (usage-not-read none reads)
    completes_due (TooLong also many) =
        let within : length many.0.0 ≤ length bytes = taken_within bytes many.0.0 new.left (subst (λ left. Consumes left new.left many.0.0) told many.0.1.0) in
        let size : length many.0.0 ≡ most_bytes + 1 = many.0.1.1 in absurd (omega arith)
    completes_due (Generated number also nothing) = absurd (read-not-job number reads also)
    completes_due (Said taken status text all output) =
        let same : taken ≡ bytes = all_taken bytes taken new.left (subst (λ left. Consumes left new.left taken) told all.1) all.2 in
        subst (λ bs. IsOutputOf asked bs status text) same output

    completes_run : {status : ℕ} → HasRun asked old new status → ¬ Rises old.read_faults new.read_faults → ¬ Rises old.write_faults new.write_faults →
        (status ≡ 8) ⊎ ((text : List ℕ) × IsOutputOf asked bytes status text × WroteAll old new text)
    completes_run (Wrote status text due whole) no_read no_write = inr (text, completes_due due, whole)
    completes_run (WriteFault status k text due part) no_read no_write = absurd (no_write part.2)
    completes_run (ReadFault also fewer rose nothing) no_read no_write = absurd (no_read rose)
    completes_run (NoMemory few same nothing) no_read no_write = inl refl

pub usage : UsageIsOfTheWords
usage asked old new run = usage_run asked old new run refl

pub words_decide : WordsDecideTheUsage
words_decide asked old new status run no_form = words_run asked old new run no_form

pub words_decide_job : WordsDecideTheJob
words_decide_job asked old new status number run asks = job_decides asked old new number (job_run asked old new number run asks)

pub job_completes : JobCompletes
job_completes asked old new status number run asks no_write = job_completed asked old new number (job_run asked old new number run asks) no_write

pub read_fault : ReadFaultIsOfTheSource
read_fault asked old new run = read_fault_run asked old new run refl

pub write_fault : WriteFaultIsOfTheSink
write_fault asked old new run = write_fault_run asked old new run refl

pub counts : CountsStay
counts asked old new status run = counts_run asked old new run

pub too_long : TooLongIsOfTheBytes
too_long asked old new run = too_long_run asked old new run refl

pub too_many_decide : TooManyDecide
too_many_decide asked old new status bytes run told many = many_run asked old new bytes told run many

pub too_many_complete : TooManyComplete
too_many_complete asked old new status bytes run reads told many no_read no_write = many_completes asked old new bytes told many reads run no_read no_write

pub no_memory : NoMemoryWritesNothing
no_memory asked old new run = no_memory_run asked old new run refl

pub all_read : AnswerIsOfAllBytes
all_read asked old new status run h = all_read_run asked old new run h

pub known : StatusesAreKnown
known asked old new status run = known_run asked old new run

pub completes : RunCompletes
completes asked old new status bytes run reads told few no_read no_write = completes_run asked old new bytes reads told few run no_read no_write

-- For a command and bytes some status and some text are due.
use Rattle.std.proofs.Common.{◌≡◌, ◌≢◌, ℕ, ◌⊎◌, inl, inr, List, [], length, Option, Some, None, refl, sym, ◌∙◌, arith}
use Rattle.std.proofs.lemmas.Bool.{cases_Bool, cases_lt}
use Rattle.std.proofs.Math.ListN.{get_or-eq_default}
use Rattle.za_alpha.specs.Words.{IsWord, projection}
use Rattle.za_alpha.specs.Alphabet.{loc_of}
use Rattle.za_alpha.proofs.Projections.{projection-outside}
use Rattle.za_alpha.proofs.RowLemmas.{none_of_or}
use Rattle.za_dfa.specs.Automata.{IsTraceClosed, is_accepted}
use Rattle.za_dfa.specs.Tables.{automaton_of}
use Rattle.za_dfa.proofs.Completing.{completion_complete}
use Rattle.za_min.proofs.Existence.{first_of, same_lists, minimal_dfas_exist}
use Rattle.za_closure.specs.Breaks.{left_word, right_word}
use Rattle.za_closure.proofs.Decided.{closed_or_broken}
use Rattle.za_text.specs.declared.kind.TextFault.{TextFault}
use Rattle.za_lang.specs.Jobs.{JobData, IsJob}
use Rattle.za_lang.specs.Documents.{fault_of, job_of}
use Rattle.za_lang.proofs.Sound.{documents_are_jobs}
use Rattle.za_claim.specs.Audited.{audited_claim, audited_job, job_bytes}
use Rattle.za_claim.specs.Claims.{ClaimData}
use Rattle.za_freeze.specs.Thawing.{frozen_job}
use Rattle.za_report.specs.Audits.{audit_text}
use Rattle.za_script.specs.declared.answer.Answer.{Answer}
use Rattle.za_script.specs.declared.answer.Answer.TheVariants.{Accept, Reject, Stuck}
use Rattle.za_script.specs.Scripts.{Weaves}
use Rattle.za_script.specs.ScriptLists.{script_of}
use Rattle.za_script.specs.Answer.{IsAnswer}
use Rattle.za_script.proofs.Confluence.{weave_is_maximal}
use Rattle.za_script.proofs.Answers.{accept_is_of_the_weave, reject_is_of_the_weave, stuck_is_of_the_weave}
use Rattle.za_report.specs.Texts.{answer_text, check_text, open_text, refused_text}
use Rattle.zielonka.specs.declared.request.Command.{Command}
use Rattle.zielonka.specs.declared.request.Command.TheVariants.{Solo, Run, Check, Locals, Journal, Audit, Thaw}
use Rattle.za_report.specs.LocalStates.{locals_text}
use Rattle.zielonka.specs.Journals.{journal_text}
use Rattle.zielonka.specs.Output.{IsAnswered, Ran, RanOnThreads, Checked, Told, Recorded, Audited, Thawed, IsDueFor, IsOutput, Open, Answered, Refused, NotOwn}
use Rattle.zielonka.specs.Output.{Read, subject_of, fault_for, given, woven_of, status_of, status_of_verdict}
use Rattle.zielonka.specs.Shown.{IsClosed}
use Rattle.zielonka.proofs.FrozenLemmas.{frozen-job, own-open, own-or-other}
use Rattle.zielonka.proofs.SomeVerdict.{hope-exists, verdict-exists}
use Rattle.zielonka.specs.Laws.{SomethingIsDue, JournalEndsAsOne}

module _ (job : JobData) (fine : IsJob job) where
  abbrev n : ℕ
  n = job.lang.alphabet.processes

  abbrev m : ℕ
  m = length job.lang.alphabet.letters

  abbrev loc : ℕ → List ℕ
  loc = loc_of job.lang.alphabet

  -- the weave uses up each script, or leaves some of one
  weaves_or_not : Weaves loc m (script_of job.scripts) (woven_of job) ⊎ (Weaves loc m (script_of job.scripts) (woven_of job) → ⊥)
  weaves_or_not =
      let located = fine.lang.distributed.located in
      let w : List ℕ = woven_of job in
      let word : IsWord m w = (weave_is_maximal loc m n (script_of job.scripts) located).fits.word in
      elim (first_of (λ p. projection loc p w ≢ script_of job.scripts p) (λ p. projection loc p w ≡ script_of job.scripts p) n
      (λ p. elim (same_lists (projection loc p w) (script_of job.scripts p)) [ inl same ↦ inr same | inr other ↦ inl other ])) [
        | inl left ↦ inr (λ k. left.2 (k.whole left.0))
        | inr all ↦ inl (record {
          word = word;
          whole = λ p. elim (cases_lt p n) [
            | inl l ↦ all p l
            | inr ge ↦ projection-outside loc m n p w located word ge ∙ sym (get_or-eq_default job.scripts [] (let many = fine.fit.processes in omega arith))
          ];
        })
      ]

  -- the scripts have an answer
  answer_exists : IsTraceClosed loc (automaton_of (given job)) → (answer : Answer) × IsAnswer loc (automaton_of (given job)) (script_of job.scripts) answer
  answer_exists closed =
      let located = fine.lang.distributed.located in
      elim weaves_or_not [
        | inr fails ↦ (Stuck, (stuck_is_of_the_weave loc n (automaton_of (given job)) (script_of job.scripts) located).1 fails)
        | inl weaves ↦ elim (cases_Bool (is_accepted (automaton_of (given job)) (woven_of job))) [
          | inl t ↦ (Accept, (accept_is_of_the_weave loc n (automaton_of (given job)) (script_of job.scripts) located closed).1 (weaves, t))
          | inr f ↦ (Reject, (reject_is_of_the_weave loc n (automaton_of (given job)) (script_of job.scripts) located closed).1 (weaves, f))
        ]
      ]

  -- so each command is answered
  module _ (claim : Option ClaimData) (closed : IsTraceClosed loc (automaton_of (given job))) where
    abbrev HasAnswer : Command → Type 0
    HasAnswer command = (status : ℕ) × (text : List ℕ) × IsAnswered job claim command status text

    solo_exists : (cache : ℕ) → HasAnswer (Solo cache)
    solo_exists cache =
        let a = answer_exists closed in
        let h = hope-exists job fine closed a.0 in
        (status_of a.0, answer_text job.naming.names job.lang.alphabet job.scripts (woven_of job) a.0 h.0 cache, Ran cache a.0 h.0 a.1 h.1)

    run_exists : (cache : ℕ) → HasAnswer (Run cache)
    run_exists cache = let a = solo_exists cache in (a.0, a.1, RanOnThreads cache a.0 a.1 a.2)

    thaw_exists : HasAnswer Thaw
    thaw_exists = let a = solo_exists 0 in (a.0, a.1, Thawed a.0 a.1 a.2)

    check_exists : (cache : ℕ) → HasAnswer (Check cache)
    check_exists cache =
        let d = minimal_dfas_exist (given job) (completion_complete job.lang fine.lang) in
        (0, check_text job.lang.alphabet d.0.states cache, Checked cache d.0 d.1)

    locals_exist : (cache : ℕ) → HasAnswer (Locals cache)
    locals_exist cache =
        let d = minimal_dfas_exist (given job) (completion_complete job.lang fine.lang) in (0, locals_text d.0 (woven_of job), Told cache d.0 d.1)

    journal_exists : (cache : ℕ) → HasAnswer (Journal cache)
    journal_exists cache =
        let a = answer_exists closed in
        let fits = weave_is_maximal loc m n (script_of job.scripts) fine.lang.distributed.located in
        (status_of a.0, journal_text job.lang.alphabet (woven_of job) a.0, Recorded cache a.0 (woven_of job) a.1 fits)

    verdict_is_said : (about : ClaimData) → claim ≡ Some about → HasAnswer Audit
    verdict_is_said about is =
        let a = answer_exists closed in
        let v = verdict-exists job fine closed about a.0 a.1 in (status_of_verdict v.0, audit_text job.lang.alphabet v.0, Audited about v.0 is v.1)

-- of whatever is read
answered_exists : (command : Command) (bytes : List ℕ) → IsJob (subject_of command bytes).job → IsClosed (subject_of command bytes).job →
    (status : ℕ) × (text : List ℕ) × IsAnswered (subject_of command bytes).job (subject_of command bytes).claim command status text
answered_exists (Solo cache) bytes fine closed = solo_exists (job_of bytes) fine None closed cache
answered_exists (Run cache) bytes fine closed = run_exists (job_of bytes) fine None closed cache
answered_exists (Check cache) bytes fine closed = check_exists (job_of bytes) fine None closed cache
answered_exists (Locals cache) bytes fine closed = locals_exist (job_of bytes) fine None closed cache
answered_exists (Journal cache) bytes fine closed = journal_exists (job_of bytes) fine None closed cache
answered_exists Audit bytes fine closed = verdict_is_said (audited_job bytes) fine (Some (audited_claim bytes)) closed (audited_claim bytes) refl
answered_exists Thaw bytes fine closed = thaw_exists (frozen_job bytes) fine None closed

-- what isn't refused says a job
says_a_job : (command : Command) (bytes : List ℕ) → fault_for command bytes ≡ None → IsJob (subject_of command bytes).job
says_a_job (Solo cache) bytes e = documents_are_jobs bytes e
says_a_job (Run cache) bytes e = documents_are_jobs bytes e
says_a_job (Check cache) bytes e = documents_are_jobs bytes e
says_a_job (Locals cache) bytes e = documents_are_jobs bytes e
says_a_job (Journal cache) bytes e = documents_are_jobs bytes e
says_a_job Audit bytes e = documents_are_jobs (job_bytes bytes) (none_of_or (fault_of (job_bytes bytes)) _ e).0
says_a_job Thaw bytes e = frozen-job bytes e

-- a text is refused or says a job, and the language of a job is closed or has a least break
by_fault : (command : Command) (bytes : List ℕ) (o : Option TextFault) → fault_for command bytes ≡ o → (status : ℕ) × (text : List ℕ)
    × IsOutput command bytes status text
by_fault command bytes (Some fault) e = (4, refused_text fault, Refused fault e)
by_fault command bytes None e =
    let job : JobData = (subject_of command bytes).job in
    let fine : IsJob job = says_a_job command bytes e in
    elim (closed_or_broken (given job) (completion_complete job.lang fine.lang)) [
      | inl closed ↦ elim (own-or-other command bytes e fine closed) [
        | inl own ↦ let r = answered_exists command bytes fine closed in (r.0, r.1, Read r.0 r.1 e fine own (Answered r.0 r.1 closed r.2))
        | inr h ↦ (4, refused_text h.0, NotOwn h.0 h.1 h.2)
      ]
      | inr k ↦
          let text : List ℕ = open_text job.lang.alphabet (left_word k.0) (right_word k.0) in
          (5, text, Read 5 text e fine (own-open command bytes fine k.0 k.1) (Open k.0 k.1))
    ]

pub something_is_due : SomethingIsDue
something_is_due command bytes = by_fault command bytes (fault_for command bytes) refl

-- a journal ends as its answer does
module _ (cache : ℕ) (bytes : List ℕ) where
  abbrev EndsWith : Command → ℕ → Type 0
  EndsWith command status = (text : List ℕ) × IsOutput command bytes status text

  answered_as_one : {status : ℕ} {text : List ℕ} → IsJob (job_of bytes) → IsClosed (job_of bytes) → IsAnswered (job_of bytes) None (Journal cache) status text →
      (said : List ℕ) × IsAnswered (job_of bytes) None (Solo cache) status said
  answered_as_one fine closed (Recorded same answer word right fits) =
      let job = job_of bytes in
      let h = hope-exists job fine closed answer in
      (answer_text job.naming.names job.lang.alphabet job.scripts (woven_of job) answer h.0 cache, Ran cache answer h.0 right h.1)

  due_as_one : {status : ℕ} {text : List ℕ} → fault_of bytes ≡ None → IsJob (job_of bytes) →
      IsDueFor (Journal cache) (subject_of (Journal cache) bytes) status text →
      EndsWith (Solo cache) status
  due_as_one right fine (Open k least) =
      let said = open_text (job_of bytes).lang.alphabet (left_word k) (right_word k) in (said, Read 5 said right fine tt (Open k least))
  due_as_one right fine (Answered status text closed answered) =
      let a = answered_as_one fine closed answered in (a.0, Read status a.0 right fine tt (Answered status a.0 closed a.1))

  as_one : {status : ℕ} {text : List ℕ} → IsOutput (Journal cache) bytes status text → EndsWith (Solo cache) status
  as_one (Refused fault wrong) = (refused_text fault, Refused fault wrong)
  as_one (NotOwn fault thaw unlike) = absurd (let both : Journal cache ≡ Thaw = thaw in cc)
  as_one (Read status text right fine own due) = due_as_one right fine due

  answered_recorded : {status : ℕ} {text : List ℕ} → IsJob (job_of bytes) → IsAnswered (job_of bytes) None (Solo cache) status text →
      (said : List ℕ) × IsAnswered (job_of bytes) None (Journal cache) status said
  answered_recorded fine (Ran same answer hope right goes) =
      let job = job_of bytes in
      let fits = weave_is_maximal (loc_of job.lang.alphabet) (length job.lang.alphabet.letters) job.lang.alphabet.processes
      (script_of job.scripts) fine.lang.distributed.located in
      (journal_text job.lang.alphabet (woven_of job) answer, Recorded cache answer (woven_of job) right fits)

  due_recorded : {status : ℕ} {text : List ℕ} → fault_of bytes ≡ None → IsJob (job_of bytes) →
      IsDueFor (Solo cache) (subject_of (Solo cache) bytes) status text →
      EndsWith (Journal cache) status
  due_recorded right fine (Open k least) =
      let said = open_text (job_of bytes).lang.alphabet (left_word k) (right_word k) in (said, Read 5 said right fine tt (Open k least))
  due_recorded right fine (Answered status text closed answered) =
      let a = answered_recorded fine answered in (a.0, Read status a.0 right fine tt (Answered status a.0 closed a.1))

  recorded : {status : ℕ} {text : List ℕ} → IsOutput (Solo cache) bytes status text → EndsWith (Journal cache) status
  recorded (Refused fault wrong) = (refused_text fault, Refused fault wrong)
  recorded (NotOwn fault thaw unlike) = absurd (let both : Solo cache ≡ Thaw = thaw in cc)
  recorded (Read status text right fine own due) = due_recorded right fine due

pub journal_ends_as_one : JournalEndsAsOne
journal_ends_as_one cache bytes status = (λ h. as_one cache bytes h.1, λ h. recorded cache bytes h.1)

-- `audit` says yes to what `journal` writes.
use Rattle.std.proofs.Common.{◌≡◌, ℕ, ◌+◌, ◌<◌, ◌||◌, ◌==◌, inl, inr, true, false, nat_lt, List, [], ◌∷◌, ◌++◌, length, take, drop, get_or, Bool, Some, None}
use Rattle.std.proofs.Common.{refl, sym, ap, subst, ◌∙◌, arith, append_assoc}
use Rattle.std.specs.Prelude.{if◌then◌else◌}
use Rattle.std.specs.Io.KnownBytes.{Consumes}
use Rattle.std.proofs.lemmas.Bool.{and_from, cases_lt, le-ltb, lt-ltb}
use Rattle.std.proofs.lemmas.List.{get_or-take, length-take-le, take-append-drop, take_more}
use Rattle.std.proofs.lemmas.List.Elements.{All-from_get_or, All-get_or, All-take, filter-append}
use Rattle.std.proofs.lemmas.List.FromFn.{length-map-range_with_len, get_or-map-range_with_len}
use Rattle.za_alpha.specs.Words.{IsAlphabet, IsWord, has, projection}
use Rattle.za_alpha.specs.Alphabet.{DistributedAlphabet, loc_of}
use Rattle.za_alpha.proofs.Swaps.{seen-take}
use Rattle.za_base.specs.Ends.{Ends}
use Rattle.za_order.specs.Labels.{label}
use Rattle.za_order.proofs.Labels.{labels_are_bounded}
use Rattle.za_order.proofs.Participants.{word-over}
use Rattle.za_order.proofs.Prefixes.{Agree, label-same}
use Rattle.za_dfa.specs.Tables.{automaton_of}
use Rattle.za_script.specs.declared.answer.Answer.{Answer}
use Rattle.za_script.specs.Answer.{IsAnswer}
use Rattle.za_script.specs.Scripts.{comes_next, is_enabled, total, Fits, FitsMaximally}
use Rattle.za_script.specs.ScriptLists.{script_of, total_of}
use Rattle.za_script.proofs.Lists.{all-from}
use Rattle.za_script.proofs.Confluence.{fits-length, next-from}
use Rattle.za_lang.specs.Jobs.{JobData, IsJob}
use Rattle.za_lang.specs.Documents.{fault_of, job_of}
use Rattle.za_claim.specs.declared.claim.Event.{Event}
use Rattle.za_claim.specs.Audited.{audited_fault, audited_job, audited_claim}
use Rattle.za_claim.specs.Claims.{ClaimData, AreClaimedEvents, HasLabel, blank_event, claimed_label, event_letters}
use Rattle.za_claim.proofs.ReadBack.{follow}
use Rattle.za_audit.specs.declared.verdict.Audit as verdict
use Rattle.za_audit.specs.Verdicts.{can_fire, defined_label, event_letter, letters_before, AreRight, AreWhole, IsVerdict}
use Rattle.za_report.specs.Audits.{audit_text}
use Rattle.zielonka.specs.declared.request.Command.TheVariants.{Journal, Audit, Thaw}
use Rattle.zielonka.specs.declared.request.Request.TheVariants.{Answer as Asks}
use Rattle.zielonka.specs.Journals.{fired_event, fired_events, journal_of, journal_text}
use Rattle.zielonka.specs.Output.{IsAnswered, Recorded, Audited, IsDueFor, Open, Answered, IsOutput, Refused, NotOwn, Read, SubjectData, subject_of, given}
use Rattle.zielonka.specs.Output.{is_yes}
use Rattle.zielonka.specs.Run.{WroteAll}
use Rattle.zielonka.specs.Shown.{IsClosed}
use Rattle.zielonka.specs.Laws.{HasAnsweredAll}
use Rattle.zielonka.specs.AuditedYes.{is_of_an_answer, IsAuditedYes, DueJournalsAreAuditedYes, JournalsAreAuditedYes}
use Rattle.zielonka.proofs.Causes.{all_read, all_taken, read-not-job}
use Rattle.zielonka.proofs.Recording.{letters-of-events}
use Rattle.zielonka.proofs.SomeVerdict.{yes-is}

-- each letter of a word that fits scripts is enabled after the letters before it
fits-enabled : (loc : ℕ → List ℕ) (letters : ℕ) (scripts : ℕ → List ℕ) (w : List ℕ) (i : ℕ) → Fits loc letters scripts w → i < length w →
    is_enabled loc scripts (take i w) (get_or w i 0) ≡ true
fits-enabled loc letters scripts w i fits l =
    let a = get_or w i 0 in
    let front = take i w in
    let rest = drop (i + 1) w in
    let split : w ≡ front ++ a ∷ rest = sym (take-append-drop (i + 1) w) ∙ ap (λ u. u ++ rest) (take_more w i 0 l) ∙ append_assoc front (a ∷ []) rest in
    all-from (λ p. comes_next (scripts p) (length (projection loc p front)) a) (loc a) (λ p own.
    let k = fits.prefix p in
    let seen : projection loc p w ≡ projection loc p front ++ a ∷ projection loc p rest =
    ap (projection loc p) split ∙ filter-append (λ b. has (loc b) p) front (a ∷ rest) ∙ ap (λ x. projection loc p front ++ x) (seen-take loc p a rest own) in
    let script : scripts p ≡ projection loc p front ++ a ∷ (projection loc p rest ++ k.0) =
    sym k.1 ∙ ap (λ x. x ++ k.0) seen ∙ append_assoc (projection loc p front) (a ∷ projection loc p rest) k.0 in
    subst (λ s. comes_next s (length (projection loc p front)) a ≡ true) (sym script) (next-from (projection loc p front) (projection loc p rest ++ k.0) a))

-- the events of a word that fits the scripts of a job maximally are a run of the job to its end
module _ (job : JobData) (fine : IsJob job) (w : List ℕ)
    (fits : FitsMaximally (loc_of job.lang.alphabet) (length job.lang.alphabet.letters) (script_of job.scripts) w) where
  abbrev alphabet : DistributedAlphabet
  alphabet = job.lang.alphabet

  abbrev loc : ℕ → List ℕ
  loc = loc_of alphabet

  abbrev m : ℕ
  m = length alphabet.letters

  abbrev events : List Event
  events = fired_events alphabet w

  located : IsAlphabet loc m alphabet.processes
  located = fine.lang.distributed.located

  size : length events ≡ length w
  size = length-map-range_with_len (fired_event alphabet w) 0 (length w)

  letters : event_letters events ≡ w
  letters = letters-of-events alphabet w

  event-is : (i : ℕ) → i < length w → get_or events i blank_event ≡ fired_event alphabet w i
  event-is i l = get_or-map-range_with_len (fired_event alphabet w) 0 (length w) i i blank_event l (omega arith)

  -- a label looks at the events up to its own alone
  label-is : (i : ℕ) → i < length w → claimed_label events i ≡ defined_label job events i
  label-is i l =
      let n = length-take-le (i + 1) w (omega arith) in
      let agree : Agree loc m alphabet.processes (i + 1) w (take (i + 1) w) = record {
        first = word-over loc m alphabet.processes w located fits.fits.word;
        second = word-over loc m alphabet.processes (take (i + 1) w) located (All-take (λ a. a < m) (i + 1) w fits.fits.word);
        in_first = omega arith;
        in_second = omega arith;
        same = λ j k. sym (get_or-take (i + 1) w j 0 k);
      } in
      ap (λ (e : Event). e.label) (event-is i l) ∙ label-same loc m alphabet.processes (i + 1) w (take (i + 1) w) i agree (omega arith)
      ∙ ap (λ u. label loc alphabet.processes (take (i + 1) u) i) (sym letters)

  fires : (i : ℕ) → i < length w → can_fire job (letters_before events i) (event_letter events i) ≡ true
  fires i l =
      let a = get_or w i 0 in
      let small : a < m = All-get_or (λ b. b < m) w i 0 l fits.fits.word in
      let enabled = fits-enabled loc m (script_of job.scripts) w i fits.fits l in
      ap (λ u. can_fire job (take i u) (get_or u i 0)) letters
      ∙ and_from (nat_lt a m) (is_enabled loc (script_of job.scripts) (take i w) a) (lt-ltb a m small) enabled

  right : AreRight job events (length events)
  right i l = let k : i < length w = let n = size in omega arith in record { letter = fires i k; label = label-is i k }

  none : (a : ℕ) → can_fire job (event_letters events) a ≡ false
  none a =
      let on = is_enabled loc (script_of job.scripts) w a in
      ap (λ u. can_fire job u a) letters
      ∙ elim (cases_lt a m) [
        | inl l ↦ let here = lt-ltb a m l in let off = fits.stuck a l in rw (here, off) refl
        | inr ge ↦ let past = le-ltb a m ge in rw past refl
      ]

  pub whole : AreWhole job events
  whole = record { right = right; none = none }

  -- they can be claimed
  pub claimed : AreClaimedEvents alphabet events
  claimed =
      let few = fits-length loc m (script_of job.scripts) alphabet.processes w located fits.fits in
      let all : total (script_of job.scripts) alphabet.processes ≡ total_of job.scripts = ap (total (script_of job.scripts)) (sym fine.fit.processes) in
      let limit = fine.scripts.few_letters in
      let n = size in
      record {
        short = omega arith;
        letters = subst (IsWord m) (sym letters) fits.fits.word;
        labels = All-from_get_or (HasLabel alphabet) events blank_event (λ i l.
            let k : i < length w = omega arith in
            subst (HasLabel alphabet) (sym (event-is i k)) (labels_are_bounded loc alphabet.processes w i));
      }

module _ (bytes : List ℕ) (read : fault_of bytes ≡ None) (fine : IsJob (job_of bytes)) (closed : IsClosed (job_of bytes)) where
  abbrev job : JobData
  job = job_of bytes

  module _ (w : List ℕ) (answer : Answer)
      (fits : FitsMaximally (loc_of job.lang.alphabet) (length job.lang.alphabet.letters) (script_of job.scripts) w)
      (is : IsAnswer (loc_of job.lang.alphabet) (automaton_of (given job)) (script_of job.scripts) answer) where
    abbrev claim : ClaimData
    claim = journal_of job.lang.alphabet w answer

    abbrev audited : List ℕ
    audited = bytes ++ journal_text job.lang.alphabet w answer

    back : (audited_fault audited ≡ None) × (audited_job audited ≡ job) × (audited_claim audited ≡ claim)
    back = follow bytes claim read (claimed job fine w fits)

    yes : (audit : verdict.Audit) × IsVerdict job claim audit × (is_yes audit ≡ true)
    yes = yes-is job fine closed claim (whole job fine w fits) is

    says : subject_of Audit audited ≡ record { job = job; claim = Some claim }
    says =
        ap (λ (j : JobData). record { job = j; claim = Some (audited_claim audited) }) back.1
        ∙ ap (λ (c : ClaimData). record { job = job; claim = Some c }) back.2

    pub audited-yes : IsAuditedYes bytes (journal_text job.lang.alphabet w answer)
    audited-yes =
        let said = audit_text job.lang.alphabet yes.0 in
        let answered : IsAnswered job (Some claim) Audit 0 said =
        subst (λ s. IsAnswered job (Some claim) Audit s said) (ap (λ b. if b then 0 else 1) yes.2) (Audited claim yes.0 refl yes.1) in
        let due : IsDueFor Audit (record { job = job; claim = Some claim }) 0 said = Answered 0 said closed answered in
        record {
          right = back.0;
          job = back.1;
          verdict = yes.0;
          is = subst (λ (c : ClaimData). IsVerdict job c yes.0) (sym back.2) yes.1;
          yes = yes.2;
          due =
              Read 0 said back.0 (subst (λ (s : SubjectData). IsJob s.job) (sym says) fine) tt
              (subst (λ (s : SubjectData). IsDueFor Audit s 0 said) (sym says) due);
        }

  module _ (cache : ℕ) where
    by-answer : {status : ℕ} {text : List ℕ} → IsAnswered job None (Journal cache) status text → IsAuditedYes bytes text
    by-answer (Recorded same answer word is fits) = audited-yes word answer fits is

by-due : (bytes : List ℕ) (cache : ℕ) {status : ℕ} {text : List ℕ} → fault_of bytes ≡ None → IsJob (job_of bytes) →
    IsDueFor (Journal cache) (subject_of (Journal cache) bytes) status text →
    is_of_an_answer status ≡ true → IsAuditedYes bytes text
by-due bytes cache read fine (Open k least) h = absurd (cc)
by-due bytes cache read fine (Answered status text closed answered) h = by-answer bytes read fine closed cache answered

pub due_journals : DueJournalsAreAuditedYes
due_journals cache bytes status text (Refused fault wrong) h = absurd (cc)
due_journals cache bytes status text (NotOwn fault thaw unlike) h = absurd (let both : Journal cache ≡ Thaw = thaw in cc)
due_journals cache bytes status text (Read same said read fine own due) h = by-due bytes cache read fine due h

-- a status of an answer is one of bytes
of-bytes : (a b c d e : Bool) → (a || (b || (c || false))) ≡ true → (a || (b || (c || (d || (e || false))))) ≡ true
of-bytes true b c d e h = refl
of-bytes false true c d e h = refl
of-bytes false false true d e h = refl
of-bytes false false false d e h = absurd (cc)

module _ (cache : ℕ) (bytes : List ℕ) (old new : Ends) (status : ℕ) (told : old.left ≡ Some bytes) (h : is_of_an_answer status ≡ true) where
  abbrev HasWritten : Type 0
  HasWritten = (text : List ℕ) × WroteAll old new text × IsAuditedYes bytes text

  by-all : HasAnsweredAll (Asks (Journal cache)) old new status → HasWritten
  by-all said =
      let text = said.1 in
      let same = all_taken bytes said.0 new.left (subst (λ left. Consumes left new.left said.0) told said.2.1) said.2.2 in
      let output = subst (λ bs. IsOutput (Journal cache) bs status text) same said.3 in
      (text, said.4, due_journals cache bytes status text output h)

pub journals : JournalsAreAuditedYes
journals cache bytes old new status run told h =
    elim (all_read (Asks (Journal cache)) old new status run (of-bytes (0 == status) (1 == status) (3 == status) (4 == status) (5 == status) h)) [
      | inl all ↦ by-all cache bytes old new status told h all
      | inr generated ↦ absurd (read-not-job generated.0 refl generated.2)
    ]

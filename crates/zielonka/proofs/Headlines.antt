-- What a run on threads answers, by what is due.
use Rattle.std.proofs.Common.{◌≡◌, ℕ, List, inl, inr, Option, None, refl}
use Rattle.za_alpha.specs.Alphabet.{loc_of}
use Rattle.za_base.specs.Ends.{Ends}
use Rattle.za_closure.specs.Breaks.{Break, IsLeastBreak, left_word, right_word}
use Rattle.za_dfa.specs.Tables.{automaton_of}
use Rattle.za_claim.specs.Claims.{ClaimData}
use Rattle.za_min.specs.declared.live.Hope.{Hope}
use Rattle.za_hope.specs.Jobs.{HasHope}
use Rattle.za_lang.specs.Jobs.{JobData, IsJob}
use Rattle.za_lang.specs.Documents.{fault_of, job_of}
use Rattle.za_report.specs.Texts.{answer_text, open_text}
use Rattle.za_script.specs.declared.answer.Answer.{Answer}
use Rattle.za_script.specs.Answer.{IsAnswer}
use Rattle.za_script.specs.ScriptLists.{script_of}
use Rattle.zielonka.specs.declared.request.Command.TheVariants.{Solo, Run, Thaw}
use Rattle.zielonka.specs.Headline.{ClosedIsAnswered, OtherIsRefused}
use Rattle.zielonka.specs.Output.{IsAnswered, Ran, RanOnThreads, IsDueFor, Open, Answered, IsOutput, Refused, NotOwn, Read, given, status_of, woven_of}
use Rattle.zielonka.specs.Run.{WroteAll}
use Rattle.zielonka.specs.Shown.{IsClosed}
use Rattle.zielonka.proofs.Causes.{completes}
use Rattle.zielonka.proofs.OneOutput.{not-both, not-read}

module _ (cache : ℕ) (old new : Ends) (job : JobData) where
  -- it says the answer
  abbrev SaysIt : ℕ → Type 0
  SaysIt status =
      (answer : Answer) × (hope : Option Hope) × IsAnswer (loc_of job.lang.alphabet) (automaton_of (given job)) (script_of job.scripts) answer
      × HasHope job answer hope × (status ≡ status_of answer)
      × WroteAll old new (answer_text job.naming.names job.lang.alphabet job.scripts (woven_of job) answer hope cache)

  by-solo : {claim : Option ClaimData} {status : ℕ} {text : List ℕ} → IsAnswered job claim (Solo cache) status text → WroteAll old new text → SaysIt status
  by-solo (Ran same answer hope right goes) wrote = (answer, hope, right, goes, refl, wrote)

  by-run : {claim : Option ClaimData} {status : ℕ} {text : List ℕ} → IsAnswered job claim (Run cache) status text → WroteAll old new text → SaysIt status
  by-run (RanOnThreads same status text answered) wrote = by-solo answered wrote

  by-due : {claim : Option ClaimData} {status : ℕ} {text : List ℕ} → IsJob job → IsClosed job →
      IsDueFor (Run cache) (record { job = job; claim = claim }) status text → WroteAll old new text → SaysIt status
  by-due fine closed (Open k least) wrote = absurd (not-both job fine k least closed)
  by-due fine closed (Answered status text also answered) wrote = by-run answered wrote

  -- or it says that the language isn't closed
  abbrev Refuses : ℕ → Type 0
  Refuses status =
      (k : Break) × IsLeastBreak (loc_of job.lang.alphabet) (automaton_of (given job)) k
      × (status ≡ 5) × WroteAll old new (open_text job.lang.alphabet (left_word k) (right_word k))

  by-break : {claim : Option ClaimData} {status : ℕ} {text : List ℕ} → ¬ IsClosed job → IsDueFor (Run cache) (record { job = job; claim = claim }) status text →
      WroteAll old new text → Refuses status
  by-break other (Open k least) wrote = (k, least, refl, wrote)
  by-break other (Answered status text closed answered) wrote = absurd (other closed)

module _ (cache : ℕ) (bytes : List ℕ) (old new : Ends) (right : fault_of bytes ≡ None) where
  answers : {status : ℕ} {text : List ℕ} → IsClosed (job_of bytes) → IsOutput (Run cache) bytes status text → WroteAll old new text →
      SaysIt cache old new (job_of bytes) status
  answers closed (Refused fault wrong) wrote = absurd (not-read (Run cache) bytes fault wrong right)
  answers closed (NotOwn fault thaw unlike) wrote = absurd (let both : Run cache ≡ Thaw = thaw in cc)
  answers closed (Read status text also fine own due) wrote = by-due cache old new (job_of bytes) fine closed due wrote

  refuses : {status : ℕ} {text : List ℕ} → ¬ IsClosed (job_of bytes) → IsOutput (Run cache) bytes status text → WroteAll old new text →
      Refuses cache old new (job_of bytes) status
  refuses other (Refused fault wrong) wrote = absurd (not-read (Run cache) bytes fault wrong right)
  refuses other (NotOwn fault thaw unlike) wrote = absurd (let both : Run cache ≡ Thaw = thaw in cc)
  refuses other (Read status text also fine own due) wrote = by-break cache old new (job_of bytes) other due wrote

pub closed_is_answered : ClosedIsAnswered
closed_is_answered cache bytes old new status well closed =
    elim (completes _ old new status bytes well.ran refl well.had well.short well.reads well.writes) [
      | inl none ↦ absurd (well.memory none)
      | inr said ↦ answers cache bytes old new well.document closed said.1 said.2
    ]

pub other_is_refused : OtherIsRefused
other_is_refused cache bytes old new status well other =
    elim (completes _ old new status bytes well.ran refl well.had well.short well.reads well.writes) [
      | inl none ↦ absurd (well.memory none)
      | inr said ↦ refuses cache bytes old new well.document other said.1 said.2
    ]

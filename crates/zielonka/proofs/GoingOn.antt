-- What is due for a frozen text is what is due for the document of its job.
use Rattle.std.proofs.Common.{◌≡◌, sym, subst, ℕ, List, None, refl}
use Rattle.za_dfa.specs.Tables.{CompleteDfa}
use Rattle.za_lang.specs.Documents.{fault_of, job_of}
use Rattle.za_lang.specs.Jobs.{JobData, IsJob}
use Rattle.za_lang.proofs.Sound.{documents_are_jobs}
use Rattle.za_freeze.specs.Frozen.{frozen_text, IsAutomatonOf}
use Rattle.za_freeze.specs.Thawing.{frozen_job}
use Rattle.zielonka.specs.declared.request.Command.TheVariants.{Solo, Thaw}
use Rattle.zielonka.specs.Output.{IsAnswered, Thawed, IsDueFor, Open, Answered, IsOutput, Refused, NotOwn, Read, SubjectData}
use Rattle.zielonka.specs.Shown.{AreClosedJob}
use Rattle.zielonka.specs.Laws.{ThawGoesOn}
use Rattle.zielonka.proofs.FrozenLemmas.{frozen-says, frozen-closed}
use Rattle.zielonka.proofs.OneOutput.{not-read, not-own}

-- what `thaw` answers to a job is what one thread answers
answered-on : (subject : SubjectData) {status : ℕ} {text : List ℕ} → IsAnswered subject.job subject.claim Thaw status text →
    IsAnswered subject.job subject.claim (Solo 0) status text
answered-on subject (Thawed status text answered) = answered

due-on : (subject : SubjectData) {status : ℕ} {text : List ℕ} → IsDueFor Thaw subject status text → IsDueFor (Solo 0) subject status text
due-on subject (Open k least) = Open k least
due-on subject (Answered status text closed answered) = Answered status text closed (answered-on subject answered)

due-off : (subject : SubjectData) {status : ℕ} {text : List ℕ} → IsDueFor (Solo 0) subject status text → IsDueFor Thaw subject status text
due-off subject (Open k least) = Open k least
due-off subject (Answered status text closed answered) = Answered status text closed (Thawed status text answered)

module _ (bytes : List ℕ) (d : CompleteDfa) (k : ℕ) (right : fault_of bytes ≡ None) (au : IsAutomatonOf (job_of bytes) d) where
  abbrev job : JobData
  job = job_of bytes

  abbrev frozen : List ℕ
  frozen = frozen_text job d k

  fine : IsJob job
  fine = documents_are_jobs bytes right

  are : AreClosedJob Thaw frozen
  are = frozen-closed frozen job d k fine au refl

  says : frozen_job frozen ≡ job
  says = frozen-says frozen job d k fine au refl

  abbrev said : JobData → SubjectData
  said j = record { job = j; claim = None }

  output-on : {status : ℕ} {text : List ℕ} → IsOutput Thaw frozen status text → IsOutput (Solo 0) bytes status text
  output-on (Refused fault wrong) = absurd (not-read Thaw frozen fault wrong are.read)
  output-on (NotOwn fault thaw unlike) = absurd (not-own Thaw frozen fault thaw unlike are.own)
  output-on (Read status text also whole own due) =
      Read status text right fine tt (due-on (said job) (subst (λ (j : JobData). IsDueFor Thaw (said j) status text) says due))

  output-off : {status : ℕ} {text : List ℕ} → IsOutput (Solo 0) bytes status text → IsOutput Thaw frozen status text
  output-off (Refused fault wrong) = absurd (not-read (Solo 0) bytes fault wrong right)
  output-off (NotOwn fault thaw unlike) = absurd (let both : Solo 0 ≡ Thaw = thaw in cc)
  output-off (Read status text also whole own due) =
      Read status text are.read are.job are.own
      (due-off (said (frozen_job frozen)) (subst (λ (j : JobData). IsDueFor (Solo 0) (said j) status text) (sym says) due))

pub thaw_goes_on : ThawGoesOn
thaw_goes_on bytes d k status text right au = (output-on bytes d k right au, output-off bytes d k right au)

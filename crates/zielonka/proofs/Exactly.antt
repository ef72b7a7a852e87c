-- When status 4 is due, and when 5.
use Rattle.std.proofs.Common.{◌≡◌, ◌≤◌, ◌↔◌, ℕ, List, Option, None, inl, inr, arith, refl, subst}
use Rattle.za_alpha.specs.Alphabet.{loc_of}
use Rattle.za_dfa.specs.Tables.{automaton_of}
use Rattle.za_closure.proofs.ClosedLemmas.{closed_is_unbroken}
use Rattle.za_lang.specs.Jobs.{JobData, IsJob}
use Rattle.za_text.specs.declared.kind.TextFault.{TextFault}
use Rattle.za_freeze.specs.Thawing.{frozen_job, IsNotOwn}
use Rattle.za_claim.specs.Claims.{ClaimData}
use Rattle.za_audit.specs.declared.verdict.Audit as verdict
use Rattle.za_audit.specs.declared.verdict.Audit.TheVariants.{Yes, BadLetter, BadLabel, NotMaximal, WrongAnswer}
use Rattle.za_script.specs.declared.answer.Answer.{Answer}
use Rattle.za_script.specs.declared.answer.Answer.TheVariants.{Accept, Reject, Stuck}
use Rattle.zielonka.specs.declared.request.Command.{Command}
use Rattle.zielonka.specs.declared.request.Command.TheVariants.{Thaw}
use Rattle.zielonka.specs.Output.{IsAnswered, Ran, RanOnThreads, Checked, Told, Recorded, Audited, Thawed, IsDueFor, Open, Answered, Refused, NotOwn, Read}
use Rattle.zielonka.specs.Output.{IsOwn, SubjectData, subject_of, fault_for, given, status_of, status_of_verdict}
use Rattle.zielonka.specs.Laws.{IsFaultOf, RefusedExactly, HasBrokenLanguage, OpenExactly}
use Rattle.zielonka.proofs.OneOutput.{not-read, not-own}

-- an answered command ends with 3 at most
answer-low : (answer : Answer) → status_of answer ≤ 3
answer-low Accept = omega arith
answer-low Reject = omega arith
answer-low Stuck = omega arith

verdict-low : (audit : verdict.Audit) → status_of_verdict audit ≤ 3
verdict-low (BadLetter at) = omega arith
verdict-low (BadLabel at) = omega arith
verdict-low (NotMaximal letter) = omega arith
verdict-low (WrongAnswer defined) = omega arith
verdict-low (Yes hope) = omega arith

answered-low : {job : JobData} {claim : Option ClaimData} {command : Command} {status : ℕ} {text : List ℕ} → IsAnswered job claim command status text →
    status ≤ 3
answered-low (Ran cache answer hope right goes) = answer-low answer
answered-low (RanOnThreads cache status text answered) = answered-low answered
answered-low (Checked cache d minimal) = omega arith
answered-low (Told cache d minimal) = omega arith
answered-low (Recorded cache answer word right fits) = answer-low answer
answered-low (Audited about audit is right) = verdict-low audit
answered-low (Thawed status text answered) = answered-low answered

due-not-four : {subject : SubjectData} {command : Command} {status : ℕ} {text : List ℕ} → IsDueFor command subject status text → status ≡ 4 → ⊥
due-not-four (Open k least) e = omega arith
due-not-four (Answered status text closed answered) e = let low : status ≤ 3 = answered-low answered in omega arith

-- what is read has no fault
no-fault : (command : Command) (bytes : List ℕ) (fault : TextFault) → fault_for command bytes ≡ None → IsOwn command bytes → IsFaultOf command bytes fault → ⊥
no-fault command bytes fault right own (inl wrong) = not-read command bytes fault wrong right
no-fault command bytes fault right own (inr h) = not-own command bytes fault h.0 h.1 own

pub refused_exactly : RefusedExactly
refused_exactly command bytes status text (Refused fault wrong) = (λ e. (fault, inl wrong), λ h. refl)
refused_exactly command bytes status text (NotOwn fault thaw unlike) = (λ e. (fault, inr (thaw, unlike)), λ h. refl)
refused_exactly command bytes status text (Read same said right fine own due) =
    (λ e. absurd (due-not-four due e), λ h. absurd (no-fault command bytes h.0 right own h.1))

-- for a job
due-open : (command : Command) (bytes : List ℕ) (status : ℕ) (text : List ℕ) → fault_for command bytes ≡ None → IsJob (subject_of command bytes).job →
    IsDueFor command (subject_of command bytes) status text → ((status ≡ 5) ↔ HasBrokenLanguage command bytes)
due-open command bytes status text right fine (Open k least) = (λ e. (right, fine, (k, least.is)), λ h. refl)
due-open command bytes status text right fine (Answered same said closed answered) =
    let low : same ≤ 3 = answered-low answered in
    let job = (subject_of command bytes).job in (
      λ e. absurd (omega arith),
      λ h. absurd ((closed_is_unbroken (loc_of job.lang.alphabet) job.lang.alphabet.processes (automaton_of (given job)) fine.lang.distributed.located).0 closed
          h.2.0 h.2.1),
    )

-- a text is compared only where its language is trace-closed
compared-closed : (command : Command) (bytes : List ℕ) (fault : TextFault) → command ≡ Thaw → IsNotOwn bytes fault → ¬ HasBrokenLanguage command bytes
compared-closed command bytes fault thaw unlike broken =
    let here = subst (λ (c : Command). HasBrokenLanguage c bytes) thaw broken in
    let job : JobData = frozen_job bytes in
    (closed_is_unbroken (loc_of job.lang.alphabet) job.lang.alphabet.processes (automaton_of (given job)) here.1.lang.distributed.located).0 unlike.1.1.closed
    here.2.0 here.2.1

pub open_exactly : OpenExactly
open_exactly command bytes status text (Refused fault wrong) = (λ e. absurd (omega arith), λ h. absurd (not-read command bytes fault wrong h.0))
open_exactly command bytes status text (NotOwn fault thaw unlike) = (λ e. absurd (omega arith), λ h. absurd (compared-closed command bytes fault thaw unlike h))
open_exactly command bytes status text (Read same said right fine own due) = due-open command bytes same said right fine due

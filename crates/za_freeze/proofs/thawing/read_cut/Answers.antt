use Rattle.std.proofs.Common.{◌≡◌, ◌∙◌, ap, sym, subst, ◌+◌, Option, Some, None, length}
use Rattle.std.specs.Prelude.{IfSome}
use Rattle.std.specs.Option.{option_map}
use Rattle.za_alpha.specs.Alphabet.{DistributedAlphabet}
use Rattle.za_script.specs.Woven.{weave_of}
use Rattle.za_text.specs.Lines.{raw}
use Rattle.za_text.specs.declared.line.Line.{Line}
use Rattle.za_lang.specs.Answers.{data_of}
use Rattle.za_lang.specs.Documents as document
use Rattle.za_lang.specs.Jobs.{JobData}
use Rattle.za_freeze.specs.Frozen.{woven_of}
use Rattle.za_freeze.specs.Thawing.{frozen_job, cut_said, cut_line, cut_place}
use Rattle.za_freeze.specs.Private.Reading.{IsUnread}
use Rattle.za_freeze.proofs.CutFaults.{read-none, read-some}
use Rattle.za_freeze.proofs.thawing.read_cut.Goals as goal
use Rattle.za_freeze.proofs.thawing.read_cut.Goals.{After-cut_said, In_ok-job}

-- the document before the cut line is right, and says the job
right : (c : In_ok-job) → document.fault_of c.divide-divided.result.before.now ≡ None
right c = c.in_ok-job.ensures.answer.0

job-is : (c : In_ok-job) → data_of c.in_ok-job.job ≡ frozen_job c.args.bytes.now
job-is c = c.in_ok-job.ensures.answer.1 ∙ ap document.job_of c.divide-divided.ensures.before

pub returns-in_default-clause-answer : goal.returns-in_default-clause-answer
returns-in_default-clause-answer c =
    let at = goal.at.returns-in_default-clause-answer c in
    let k = at.In_ok-job in
    let none = sym c.divide-divided.ensures.line ∙ ap (option_map raw) c.in_default.is in
    read-none c.args.bytes.now (ap document.fault_of (sym c.divide-divided.ensures.before) ∙ right k) c.passed.result none
    (c.passed.ensures.value ∙ c.divide-divided.ensures.passed)

-- how many events fire
fires : (c : After-cut_said) → data_of c.in_ok-job.job ≡ frozen_job c.args.bytes.now → length (woven_of (frozen_job c.args.bytes.now)) ≡ c.len.result
fires c job =
    ap (λ (j : JobData). length (woven_of j)) (sym job)
    ∙ ap length (sym (c.word.ensures ∙ c.in-Ok.ensures.weave.word ∙ ap (λ (a : DistributedAlphabet). weave_of a c.in_ok-job.job.scripts) c.alphabet.ensures))
    ∙ sym c.len.ensures

-- the cut line
line-is : (c : After-cut_said) → cut_line c.args.bytes.now ≡ Some (raw c.in-Some.line)
line-is c = sym c.divide-divided.ensures.line ∙ ap (option_map raw) c.in-Some.is

line-number : (c : After-cut_said) → cut_place c.args.bytes.now + 1 ≡ c.in-Some.line.number
line-number c =
    sym (subst (λ (o : Option Line). IfSome o (λ (l : Line). l.number ≡ cut_place c.args.bytes.now + 1)) c.in-Some.is c.divide-divided.ensures.number)

pub returns-in-Ok-cut_said-clause-answer : goal.returns-in-Ok-cut_said-clause-answer
returns-in-Ok-cut_said-clause-answer c =
    let at = goal.at.returns-in-Ok-cut_said-clause-answer c in
    let k = at.After-cut_said in
    let job = at.In_ok-job in
    let bytes = c.args.bytes.now in (
      read-some bytes (ap document.fault_of (sym c.divide-divided.ensures.before) ∙ right job) (raw c.in-Some.line) c.len.result None
          (line-is k) (fires k (job-is job)) c.in-Ok-cut_said.ensures.answer.0,
      job-is job,
      c.in-Ok-cut_said.ensures.answer.1 ∙ sym (ap cut_said (line-is k)),
    )

pub returns-in-Err-clause-answer : goal.returns-in-Err-clause-answer
returns-in-Err-clause-answer c =
    let at = goal.at.returns-in-Err-clause-answer c in
    let k = at.After-cut_said in
    let job = at.In_ok-job in
    let bytes = c.args.bytes.now in
    let fault = read-some bytes (ap document.fault_of (sym c.divide-divided.ensures.before) ∙ right job) (raw c.in-Some.line) c.len.result
    (Some c.in-Err.kind) (line-is k) (fires k (job-is job)) c.in-Err.ensures.answer in
    subst (IsUnread bytes) (sym c.fault_at.ensures) (fault ∙ ap (λ n. Some (record { line = n; kind = c.in-Err.kind })) (line-number k))

use Rattle.std.proofs.Common.{◌≡◌, ◌∙◌, [], refl, ap, sym, subst, take}
use Rattle.za_text.specs.Lines.{lines_of, raw}
use Rattle.za_lang.specs.declared.order.Place.TheVariants.{AfterEnd}
use Rattle.za_lang.specs.declared.reading.Reading.{Reading}
use Rattle.za_lang.specs.declared.reading.Reading.TheVariants as reading
use Rattle.za_text.specs.Words.{words_of}
use Rattle.za_lang.specs.Answers.{data_of, IsRefused}
use Rattle.za_lang.specs.Documents.{said, end_fault, version_by, version_of, words_in}
use Rattle.za_lang.specs.Reading.{nothing, IsReading, Keeps, Awaits}
use Rattle.za_lang.specs.Gathering.{more}
use Rattle.za_lang.proofs.Faults.{begins, goes_on, stops, ends}
use Rattle.za_lang.proofs.Saying.{said_none, said_version}
use Rattle.za_lang.proofs.Whole.{told_whole}
use Rattle.za_lang.proofs.reading.read_job.Goals as goal

pub lines-init : goal.lines-init
lines-init c =
    let all = lines_of c.args.bytes.now in
    let v = version_of all in
    rw (c.new-lines.ensures.passed, c.new-lines.ensures.rest)
    (record { read = begins v all; whole = tt; shows = said_none v ∙ ap nothing (sym (said_version v [])); awaits = refl })

pub lines-preserved : goal.lines-preserved
lines-preserved c =
    let all = lines_of c.args.bytes.now in
    let v = version_of all in
    let n = c.lines.lines.passed in
    let s = said v (take n all) in
    let line = raw c.in-Some.line in
    let left = lines_of c.next.new.self.rest in
    let reading = c.take.new.self in
    let is : s.naming.version ≡ v = said_version v (take n all) in
    let awaits = subst (λ u. Awaits c.lines.reading (version_by (version_of left) (words_of line.text)) u) (sym is)
    (subst (λ ls. Awaits c.lines.reading (version_of ls) v) c.in-Some.ensures.first c.lines.invariant.awaits) in
    let taken = c.in_default-take.ensures.taken s (version_of left) c.lines.invariant.shows awaits in
    let on = goes_on v all n c.next.new.self.passed (lines_of c.lines.lines.rest) line left c.lines.invariant.read c.in-Some.ensures.first taken.0
    c.in-Some.ensures.passed in
    record {
      read = on.0;
      whole = c.in_default-take.ensures.whole;
      shows = subst (Keeps reading) (sym on.1) (subst (λ u. Keeps reading (more s (words_in u line))) is taken.1);
      awaits = subst (λ u. Awaits reading (version_of left) u) is taken.2;
    }

pub returns-in-Err-clause-answer : goal.returns-in-Err-clause-answer
returns-in-Err-clause-answer c =
    let bytes = c.args.bytes.now in
    let all = lines_of bytes in
    let v = version_of all in
    let n = c.lines.lines.passed in
    let s = said v (take n all) in
    let line = raw c.in-Some.line in
    let left = lines_of c.next.new.self.rest in
    let is : s.naming.version ≡ v = said_version v (take n all) in
    let awaits = subst (λ u. Awaits c.lines.reading (version_by (version_of left) (words_of line.text)) u) (sym is)
    (subst (λ ls. Awaits c.lines.reading (version_of ls) v) c.in-Some.ensures.first c.lines.invariant.awaits) in
    let wrong = c.in-Err.ensures.taken s (version_of left) c.lines.invariant.shows awaits in
    subst (IsRefused bytes) (sym c.fault_at.ensures)
    (stops bytes n c.in-Some.line.number (lines_of c.lines.lines.rest) line left c.lines.invariant.read c.in-Some.ensures.first c.in-Some.ensures.number
    c.in-Err.refusal wrong)

pub returns-in-Some-into_job-clause-answer : goal.returns-in-Some-into_job-clause-answer
returns-in-Some-into_job-clause-answer c =
    let all = lines_of c.args.bytes.now in
    let v = version_of all in
    let n = c.lines.lines.passed in
    let job = c.in-Some-into_job.job in
    let e = ends v all n (lines_of c.lines.lines.rest) c.lines.invariant.read c.in_default.ensures.none in
    let ended = c.in-Some-into_job.ensures in
    let shows : Keeps (reading.Body AfterEnd job) (said v all) =
    subst (λ (r : Reading). Keeps r (said v all)) ended (subst (λ ls. Keeps c.lines.reading (said v ls)) e.1 c.lines.invariant.shows) in
    let whole : IsReading (reading.Body AfterEnd job) = subst IsReading ended c.lines.invariant.whole in
    (e.0 ∙ ap (λ p. end_fault p n) (sym shows.0), told_whole (data_of job) (said v all) whole.1 shows.1)

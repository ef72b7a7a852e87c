use Rattle.std.proofs.Common.{◌≡◌, ◌∙◌, [], None, refl, ap, sym, subst, take, List}
use Rattle.za_text.specs.Lines.{lines_of, raw, RawLine}
use Rattle.za_lang.specs.declared.order.Place.TheVariants.{AfterEnd}
use Rattle.za_lang.specs.declared.reading.Reading.{Reading}
use Rattle.za_lang.specs.declared.reading.Reading.TheVariants as reading
use Rattle.za_lang.specs.declared.version.Version.TheVariants.{Two}
use Rattle.za_lang.specs.Answers.{data_of}
use Rattle.za_lang.specs.Documents.{Said, said, end_fault, words_in}
use Rattle.za_lang.specs.Reading.{nothing, IsReading}
use Rattle.za_expr.specs.Built.{IsBuildFault}
use Rattle.za_expr.specs.Documents.{place_with, said_with, tokens_in}
use Rattle.za_expr.specs.Private.Keeping.{more_with, KeepsWith}
use Rattle.za_expr.proofs.Faults.{begins, goes_on, stops, ends}
use Rattle.za_expr.proofs.Saying.{said_with_none}
use Rattle.za_expr.proofs.Whole.{going_whole}
use Rattle.za_expr.proofs.document.read_expression.Goals as goal

pub lines-init : goal.lines-init
lines-init c =
    let all = lines_of c.args.bytes.now in
    let start = said_with_none in
    let version : (said_with []).naming.version ≡ Two = ap (λ (s : Said). s.naming.version) start in
    rw (c.new-lines.ensures.passed, c.new-lines.ensures.rest) (record {
      read = begins all;
      whole = tt;
      shows = record {
        keeps = start ∙ ap nothing (sym version);
        version = version;
        none = refl;
      };
    })

pub lines-preserved : goal.lines-preserved
lines-preserved c =
    let all = lines_of c.args.bytes.now in
    let n = c.lines.lines.passed in
    let before = take n all in
    let line = raw c.in-Some.line in
    let left = lines_of c.next.new.self.rest in
    let reading = c.take.new.reading in
    let taken = c.in_default-take.ensures.taken (said_with before) (tokens_in before) c.lines.invariant.shows in
    let on = goes_on all n c.next.new.self.passed (lines_of c.lines.lines.rest) line left c.lines.invariant.read c.in-Some.ensures.first taken.0
    c.in-Some.ensures.passed in
    record {
      read = on.0;
      whole = c.in_default-take.ensures.whole;
      shows = subst (λ s. KeepsWith reading s (tokens_in (take c.next.new.self.passed all))) (sym on.1)
          (subst (KeepsWith reading (more_with (said_with before) (words_in Two line))) (sym on.2) taken.1);
    }

pub returns-in-Err-clause-answer : goal.returns-in-Err-clause-answer
returns-in-Err-clause-answer c =
    let bytes = c.args.bytes.now in
    let n = c.lines.lines.passed in
    let before = take n (lines_of bytes) in
    let line = raw c.in-Some.line in
    let left = lines_of c.next.new.self.rest in
    let wrong = c.in-Err.ensures.taken (said_with before) (tokens_in before) c.lines.invariant.shows in
    subst (IsBuildFault bytes) (sym c.fault_at.ensures)
    (stops bytes n c.in-Some.line.number (lines_of c.lines.lines.rest) line left c.lines.invariant.read c.in-Some.ensures.first c.in-Some.ensures.number
    c.in-Err.refusal wrong)

pub returns-in-Some-into_job-clause-answer : goal.returns-in-Some-into_job-clause-answer
returns-in-Some-into_job-clause-answer c =
    let all = lines_of c.args.bytes.now in
    let n = c.lines.lines.passed in
    let job = c.in-Some-into_job.job in
    let e = ends all n (lines_of c.lines.lines.rest) c.lines.invariant.read c.in_default.ensures.none in
    let ended = c.in-Some-into_job.ensures in
    let keeps : KeepsWith (reading.Body AfterEnd job) (said_with (take n all)) (tokens_in (take n all)) =
    subst (λ (r : Reading). KeepsWith r (said_with (take n all)) (tokens_in (take n all))) ended c.lines.invariant.shows in
    let shows = subst (λ (ls : List RawLine). KeepsWith (reading.Body AfterEnd job) (said_with ls) (tokens_in ls)) e.1 keeps in
    let whole : IsReading (reading.Body AfterEnd job) = subst IsReading ended c.lines.invariant.whole in
    (e.0 None (ap (λ p. end_fault p n) keeps.at), going_whole AfterEnd (place_with all) (data_of job) (said Two all) (tokens_in all) whole.1 shows)

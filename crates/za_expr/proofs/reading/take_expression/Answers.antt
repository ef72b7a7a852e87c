use Rattle.std.proofs.Common.{rules, sym, subst, None}
use Rattle.za_lang.specs.Answers.{data_of}
use Rattle.za_lang.specs.Documents.{Said}
use Rattle.za_lang.specs.declared.reading.Reading.TheVariants as reading
use Rattle.za_lang.specs.declared.version.Version.TheVariants.{Two}
use Rattle.za_expr.specs.Expressions.{HasExpressionFault}
use Rattle.za_expr.specs.Private.Keeping.{KeepsWith}
use Rattle.za_expr.proofs.Begun.{begun_right, begun_going}
use Rattle.za_expr.proofs.reading.take_expression.Goals as goal

pub returns-in_ok-job-in-Letters-Two-default-default-clause-taken : goal.returns-in_ok-job-in-Letters-Two-default-default-clause-taken
returns-in_ok-job-in-Letters-Two-default-default-clause-taken c s tokens h =
    let b = c.in-Letters-Two-default-default in
    let job = c.in_ok-job-in-Letters-Two-default-default in
    let begun = job.ensures.said in
    let early : KeepsWith (reading.Letters Two b.names b.letters) s tokens = search (rules, h) in
    let right = subst (λ (t : Said). HasExpressionFault t.letters c.args.words None) (sym early.keeps)
    (begun_right b.letters c.args.words begun.dfa begun.some begun.table) in
    (right, begun_going b.names b.letters c.args.words tokens (data_of job.job) s early.keeps early.none job.ensures.whole begun)

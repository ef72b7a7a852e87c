use Rattle.std.proofs.Common.{arith}
use Rattle.za_text.proofs.LineLemmas.{len_at, len_nowhere}
use Rattle.za_text.proofs.line.line_len.Goals as goal

pub returns-in-Some-clause-value : goal.returns-in-Some-clause-value
returns-in-Some-clause-value c =
    len_at c.args.bytes.now c.in-Some.at c.in-Some.ensures.0.high (λ k h. c.in-Some.ensures.0.before k (omega arith) h) c.in-Some.ensures.1

pub returns-in-None-clause-value : goal.returns-in-None-clause-value
returns-in-None-clause-value c = len_nowhere c.args.bytes.now (λ k h. c.in-None.ensures k (omega arith) h)

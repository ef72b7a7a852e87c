use Rattle.std.proofs.Common.{below_more, refl, arith}
use Rattle.za_hall.proofs.Letters.{false_true}
use Rattle.za_hall.proofs.closing.least_missing.Goals as goal

pub loop-process-preserved : goal.loop-process-preserved
loop-process-preserved c = below_more _ _ c.loop-process.invariant (c.if-not-has_desk.ensures.0 refl)

pub returns-then-not-has_desk : goal.returns-then-not-has_desk
returns-then-not-has_desk c = record {
  within = let t = c.loop-process-test.true in omega arith;
  holds = λ a. false_true (c.if-not-has_desk.ensures.1 a);
  first = λ q l missing. missing (c.loop-process.invariant q l);
}

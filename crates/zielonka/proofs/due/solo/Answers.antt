use Rattle.zielonka.specs.Private.Saying.{OfRun}
use Rattle.zielonka.proofs.due.solo.Goals as goal

pub returns-clause-made : goal.returns-clause-made
returns-clause-made c = OfRun c.in_ok-ended.ended (record {
  of = c.in_ok-ended.ensures.run;
  journal = c.in_ok-ended.ensures.journal;
  made = c.in_ok-said.ensures.made;
})

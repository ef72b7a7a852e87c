use Rattle.std.proofs.Common.{subst}
use Rattle.za_lang.specs.Answers.{data_of}
use Rattle.za_table.specs.Ends.{EndedState}
use Rattle.zielonka.specs.Output.{RanOnThreads}
use Rattle.zielonka.specs.Shown.{TellsAnswer}
use Rattle.zielonka.specs.Private.Saying.{OfRun}
use Rattle.zielonka.proofs.DueLemmas.{run-weaves}
use Rattle.zielonka.proofs.due.run.Goals as goal

pub returns-clause-answered : goal.returns-clause-answered
returns-clause-answered g c = RanOnThreads c.args.cache c.in_ok-said.said.status c.in_ok-said.said.text.items
    (c.in_ok-said.ensures.answered c.args.it.now.claim)

pub returns-clause-made : goal.returns-clause-made
returns-clause-made g c = OfRun c.in_ok-closed.closed (record {
  of = c.in_ok-closed.ensures;
  journal = run-weaves (data_of c.args.it.now.job) c.in_ok-closed.closed c.requires.job c.in_ok-closed.ensures;
  made = subst (λ (run : EndedState). TellsAnswer (data_of c.args.it.now.job).naming.names run c.args.cache c.in_ok-said.said.text.items) c.ended.ensures
      c.in_ok-said.ensures.made;
})

use Rattle.std.proofs.Common.{◌≡◌, ℕ, List, sym, ap, subst, ◌∙◌}
use Rattle.za_lang.specs.Answers.{data_of}
use Rattle.za_table.specs.Ends.{EndedState, answer_in}
use Rattle.zielonka.specs.declared.request.Command.TheVariants.{Journal}
use Rattle.zielonka.specs.Output.{IsAnswered, Recorded, status_of}
use Rattle.zielonka.specs.Shown.{journal_text_of}
use Rattle.zielonka.specs.Private.Saying.{OfRun}
use Rattle.zielonka.proofs.DueLemmas.{run-maximal, run-weaves}
use Rattle.zielonka.proofs.Recording.{journal-of-job}
use Rattle.zielonka.proofs.due.journal.Goals as goal
use Rattle.zielonka.proofs.due.journal.Goals.{In_ok-said}
use Rattle.zielonka.proofs.due.journal.Given.{Over}

-- the text is the journal of the closed hall
text-is : (g : Over) (c : In_ok-said g) → c.in_ok-said.said.text.items ≡ journal_text_of c.in_ok-closed.closed
text-is g c = c.in_ok-said.ensures.made ∙ ap journal_text_of c.ended.ensures

pub returns-clause-answered : goal.returns-clause-answered
returns-clause-answered g c =
    let job = data_of c.args.it.now.job in
    let claim = c.args.it.now.claim in
    let run = c.in_ok-closed.closed in
    let of = c.in_ok-closed.ensures in
    let cache = c.args.cache in
    subst (λ (s : ℕ). IsAnswered job claim (Journal cache) s c.in_ok-said.said.text.items)
    (sym (c.in_ok-said.ensures.status ∙ ap (λ (r : EndedState). status_of (answer_in r)) c.ended.ensures))
    (subst (λ (t : List ℕ). IsAnswered job claim (Journal cache) (status_of (answer_in run)) t) (sym (text-is g c ∙ journal-of-job job run of))
    (Recorded cache (answer_in run) run.state.journal of.answer (run-maximal job run c.requires.job of)))

pub returns-clause-made : goal.returns-clause-made
returns-clause-made g c = OfRun c.in_ok-closed.closed (record {
  of = c.in_ok-closed.ensures;
  journal = run-weaves (data_of c.args.it.now.job) c.in_ok-closed.closed c.requires.job c.in_ok-closed.ensures;
  made = text-is g c;
})

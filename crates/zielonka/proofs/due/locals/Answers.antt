use Rattle.std.proofs.Common.{ℕ, List, sym, ap, subst, ◌∙◌}
use Rattle.za_dfa.specs.Tables.{CompleteDfa}
use Rattle.za_lang.specs.Answers.{data_of}
use Rattle.za_report.specs.LocalStates.{locals_text}
use Rattle.zielonka.specs.declared.request.Command.TheVariants.{Locals}
use Rattle.zielonka.specs.Output.{IsAnswered, Told}
use Rattle.zielonka.specs.Private.Saying.{OfRun}
use Rattle.zielonka.proofs.due.locals.Goals as goal

pub returns-clause-answered : goal.returns-clause-answered
returns-clause-answered c =
    let job = data_of c.args.it.now.job in
    let d = c.args.it.now.closed in
    let text = c.in_ok-text.ensures ∙ ap (locals_text d) c.in_ok-ended.ensures.journal in
    subst (λ (t : List ℕ). IsAnswered job c.args.it.now.claim (Locals c.args.cache) 0 t) (sym text) (Told c.args.cache d c.requires.minimal)

pub returns-clause-made : goal.returns-clause-made
returns-clause-made c =
    let run = c.in_ok-ended.ended in
    OfRun run (record {
      of = c.in_ok-ended.ensures.run;
      journal = c.in_ok-ended.ensures.journal;
      made = c.in_ok-text.ensures ∙ ap (λ (d : CompleteDfa). locals_text d run.state.journal) (sym c.in_ok-ended.ensures.dfa);
    })

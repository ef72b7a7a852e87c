use Rattle.std.proofs.Common.{◌≡◌, ap, ◌∙◌}
use Rattle.za_dfa.specs.Tables.{CompleteDfa}
use Rattle.za_lang.specs.Answers.{data_of}
use Rattle.za_table.specs.Tables.{Given}
use Rattle.za_table.specs.Ends.{EndedState, IsEnded, HasAnswer}
use Rattle.zielonka.specs.Shown.{IsRunOf}
use Rattle.zielonka.proofs.DueLemmas.{ok_map, ok_and, run-is}
use Rattle.zielonka.proofs.due.run_alone.Goals as goal

pub returns-clause-run : goal.returns-clause-run
returns-clause-run c =
    let job = data_of c.args.it.now.job in
    let d = c.args.it.now.closed in
    let r = c.solo.result in
    let on : Given = record { dfa = c.in_ok-closed.closed; scripts = c.in_ok-scripts.scripts } in
    let is : on ≡ record { dfa = d; scripts = job.scripts } =
    ap (λ (k : CompleteDfa). record { dfa = k; scripts = c.in_ok-scripts.scripts }) c.in_ok-closed.ensures
    ∙ ap (λ s. record { dfa = d; scripts = s }) c.in_ok-scripts.ensures in
    ok_map r (λ (e : EndedState). (e.given ≡ on) × (IsEnded e × HasAnswer e)) (λ (e : EndedState). IsRunOf job e)
    (λ e h. run-is job d e c.requires.minimal (h.0 ∙ is) h.1.0 h.1.1)
    (ok_and r _ _ c.solo.ensures.given (ok_and r _ _ c.solo.ensures.over c.solo.ensures.answer))

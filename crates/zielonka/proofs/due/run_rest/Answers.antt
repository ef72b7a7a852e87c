use Rattle.std.proofs.Common.{◌≡◌, ℕ, List, ap, sym, subst, ◌∙◌}
use Rattle.za_dfa.specs.Tables.{CompleteDfa}
use Rattle.za_lang.specs.Answers.{data_of}
use Rattle.za_table.specs.Tables.{Given}
use Rattle.za_table.specs.Ends.{EndedState, IsEnded, HasAnswer}
use Rattle.za_freeze.specs.Frozen.{IsThawed}
use Rattle.zielonka.specs.Shown.{IsRestOf}
use Rattle.zielonka.specs.Private.Saying.{IsRestBy}
use Rattle.zielonka.proofs.DueLemmas.{ok_map, ok_and}
use Rattle.zielonka.proofs.due.run_rest.Goals as goal

pub returns : goal.returns
returns g c =
    let it = c.args.it.now in
    let job = data_of it.job in
    let r = c.run.result in
    let on : Given = record { dfa = c.in_ok-closed.closed; scripts = c.in_ok-rest.rest } in
    let is : on ≡ record { dfa = it.closed; scripts = it.rest } =
    ap (λ (k : CompleteDfa). record { dfa = k; scripts = c.in_ok-rest.rest }) c.in_ok-closed.ensures
    ∙ ap (λ s. record { dfa = it.closed; scripts = s }) c.in_ok-rest.ensures in
    ok_map r (λ (e : EndedState). (e.given ≡ on) × (IsEnded e × HasAnswer e)) (λ (e : EndedState). (bytes : List ℕ) → IsRestBy bytes it → IsRestOf bytes job e)
    (λ e h bytes left. record {
      thawed = subst (λ (on : Given). IsThawed bytes job on.dfa on.scripts) (sym (h.0 ∙ is)) left.thawed;
      over = h.1.0;
      answer = h.1.1;
    })
    (ok_and r _ _ c.run.ensures.given (ok_and r _ _ c.run.ensures.over c.run.ensures.answer))

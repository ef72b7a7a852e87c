use Rattle.std.proofs.Common.{refl, sym, subst}
use Rattle.za_lang.specs.Answers.{data_of}
use Rattle.za_table.specs.Ends.{EndedState}
use Rattle.zielonka.specs.Shown.{IsRestOf, TellsWhole}
use Rattle.zielonka.proofs.RestLemmas.{rest-fit, rest-weaves}
use Rattle.zielonka.proofs.due.answer_rest.Goals as goal

pub run_rest-requires-clause-fit : goal.run_rest-requires-clause-fit
run_rest-requires-clause-fit g c κs within =
    let it = c.args.it.now in
    let left = c.requires.rest.1 in
    rest-fit c.requires.rest.0 (data_of it.job) it.closed it.rest left.job left.thawed

pub told_of_rest-requires-clause-run : goal.told_of_rest-requires-clause-run
told_of_rest-requires-clause-run g c bytes left =
    subst (IsRestOf bytes (data_of c.args.it.now.job)) (sym c.ended.ensures) (c.in_ok-hall.ensures bytes left)

pub returns-clause-made : goal.returns-clause-made
returns-clause-made g c bytes left =
    let job = data_of c.args.it.now.job in
    let run = c.in_ok-hall.hall in
    let of = c.in_ok-hall.ensures bytes left in (
      run,
      refl,
      record {
        of = of;
        journal = rest-weaves bytes job run left.job of;
        made = subst (λ (e : EndedState). TellsWhole job e c.in_ok-said.said.text.items) c.ended.ensures c.in_ok-said.ensures.made;
      },
    )

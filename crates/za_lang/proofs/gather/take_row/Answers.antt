use Rattle.std.proofs.Common.{◌≡◌, ◌∙◌, ◌++◌, ◌∷◌, [], cond, Some, None, ap, sym, subst, rules}
use Rattle.za_text.specs.declared.kind.Kind.TheVariants.{TwoTargets}
use Rattle.za_dfa.specs.declared.rows.Row.{Row}
use Rattle.za_dfa.specs.Entered.{AreEntered}
use Rattle.za_dfa.proofs.EnteredLemmas.{other_of_entered, entered_more}
use Rattle.za_lang.specs.Namings.{LangData}
use Rattle.za_lang.specs.Tests.{row_line_fault}
use Rattle.za_lang.proofs.gather.take_row.Goals as goal

pub returns-in_err-enter-clause-rows : goal.returns-in_err-enter-clause-rows
returns-in_err-enter-clause-rows c rows entered =
    let lang = c.args.lang.now.table in
    let row = c.in_ok-row.row in
    let at = c.in_ok-row.ensures.row in
    let other = other_of_entered lang rows entered row.from row.letter.0 row.to at.1 at.2 in
    let fault : row_line_fault lang.states lang.alphabet.letters rows c.args.words ≡ Some TwoTargets = c.in_ok-row.ensures.said rows
    ∙ ap (λ b. cond b (Some TwoTargets) None) (other ∙ c.in_err-enter.ensures.answer.0) in
    search (rules, fault)

pub returns-clause-rows : goal.returns-clause-rows
returns-clause-rows c rows entered =
    let lang = c.args.lang.now.table in
    let row = c.in_ok-row.row in
    let at = c.in_ok-row.ensures.row in
    let table_row : Row = record { from = row.from; letter = row.letter; to = row.to } in
    let answer = c.in_ok-enter.ensures.answer in
    let other = other_of_entered lang rows entered row.from row.letter.0 row.to at.1 at.2 in (
      c.in_ok-row.ensures.said rows ∙ ap (λ b. cond b (Some TwoTargets) None) (other ∙ answer.0),
      subst (λ said. AreEntered c.enter.new.self.table (rows ++ said)) (sym at.0)
          (subst (λ (l : LangData). AreEntered l.table (rows ++ table_row ∷ [])) (sym answer.1)
          (entered_more lang rows entered table_row at.1 at.3 at.2 answer.0)),
    )

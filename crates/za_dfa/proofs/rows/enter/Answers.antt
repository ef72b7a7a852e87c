use Rattle.std.proofs.Common.{◌∙◌, ◌<◌, ◌++◌, ◌∷◌, [], true, false, sym, subst, arith}
use Rattle.std.proofs.lemmas.Grind.{common_steps}
use Rattle.za_dfa.specs.Partials.{PartialDfa}
use Rattle.za_dfa.specs.Entered.{AreEntered}
use Rattle.za_dfa.proofs.RowLemmas.{fault_by_other}
use Rattle.za_dfa.proofs.EnteredLemmas.{other_of_entered, entered_more}
use Rattle.za_dfa.proofs.rows.enter.Goals as goal

pub returns-in-Ok-clause-fault : goal.returns-in-Ok-clause-fault
returns-in-Ok-clause-fault c =
    let partial = c.args.partial.now in
    let row = c.args.row.now in
    let from : row.from < partial.states = grind (arith, common_steps) in
    let to : row.to < partial.states = grind (arith, common_steps) in
    let other = other_of_entered partial c.args.before.now c.requires.entered row.from row.letter.0 row.to from c.requires.letter in
    sym (fault_by_other partial.states c.args.before.now row false from to (other ∙ c.in-Ok.ensures.answer.0))

pub returns-in-Ok-clause-entered : goal.returns-in-Ok-clause-entered
returns-in-Ok-clause-entered c =
    let partial = c.args.partial.now in
    let row = c.args.row.now in
    let from : row.from < partial.states = grind (arith, common_steps) in
    let to : row.to < partial.states = grind (arith, common_steps) in
    subst (λ (p : PartialDfa). AreEntered p (c.args.before.now ++ row ∷ [])) (sym c.in-Ok.ensures.answer.1)
    (entered_more partial c.args.before.now c.requires.entered row from to c.requires.letter c.in-Ok.ensures.answer.0)

pub returns-in-Err-clause-fault : goal.returns-in-Err-clause-fault
returns-in-Err-clause-fault c =
    let partial = c.args.partial.now in
    let row = c.args.row.now in
    let from : row.from < partial.states = grind (arith, common_steps) in
    let to : row.to < partial.states = grind (arith, common_steps) in
    let other = other_of_entered partial c.args.before.now c.requires.entered row.from row.letter.0 row.to from c.requires.letter in
    sym (fault_by_other partial.states c.args.before.now row true from to (other ∙ c.in-Err.ensures.answer.0))

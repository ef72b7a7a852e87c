use Rattle.std.proofs.Common.{ℕ, List, sym, ap, subst, ◌∙◌, ◌≡◌}
use Rattle.za_alpha.specs.Alphabet.{loc_of}
use Rattle.za_dfa.specs.Tables.{automaton_of}
use Rattle.za_script.specs.ScriptLists.{script_of}
use Rattle.za_script.specs.Answer.{IsAnswer}
use Rattle.za_machine.specs.Machine.{IsOver}
use Rattle.za_machine.specs.Answer.{answer_at}
use Rattle.za_table.specs.Tables.{TableState, machine_of}
use Rattle.za_table.specs.Ends.{HasAnswer}
use Rattle.za_table.specs.Private.Inside.{table_in}
use Rattle.za_table.proofs.Endings.{of-word}
use Rattle.za_table.proofs.table.Table.into_ended.Goals as goal

pub invariant_of-result : goal.invariant_of-result
invariant_of-result c =
    let t = c.self.inside in
    let same : table_in t ≡ c.args.self = c.self.view_is ∙ c.answer-answer.ensures.rest in
    of-word t c.self.invariant c.answer-answer.result
    (subst (λ (x : TableState). IsOver (machine_of x.given) x.state) (sym same) c.requires)
    (c.answer-answer.ensures.value ∙ ap (λ (x : TableState). answer_at (automaton_of x.given.dfa) x.state) (sym same))
    (subst (λ (x : TableState). IsAnswer (loc_of x.given.dfa.alphabet) (automaton_of x.given.dfa) (script_of x.given.scripts) c.answer-answer.result)
    (sym same) c.answer-answer.ensures.answer)
    c.of_letters.result c.of_letters.ensures

pub returns-clause-answer : goal.returns-clause-answer
returns-clause-answer c =
    let t = c.self.inside in
    let x = c.args.self in
    let same : table_in t ≡ x = c.self.view_is ∙ c.answer-answer.ensures.rest in
    let told : HasAnswer (record { given = x.given; state = x.state }) =
    subst (IsAnswer (loc_of x.given.dfa.alphabet) (automaton_of x.given.dfa) (script_of x.given.scripts)) c.answer-answer.ensures.value
    c.answer-answer.ensures.answer in
    subst (λ (w : List ℕ). HasAnswer (record { given = (table_in t).given; state = record (table_in t).state { journal = w } })) (sym c.of_letters.ensures)
    (subst (λ (y : TableState). HasAnswer (record { given = y.given; state = y.state })) (sym same) told)

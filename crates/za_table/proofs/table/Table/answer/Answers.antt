use Rattle.std.proofs.Common.{refl, sym, subst}
use Rattle.za_alpha.specs.Alphabet.{loc_of}
use Rattle.za_dfa.specs.Tables.{automaton_of}
use Rattle.za_dfa.proofs.TableLemmas.{total_of_complete}
use Rattle.za_dfa.proofs.Diamonds.{diamonds_close_the_language}
use Rattle.za_script.specs.ScriptLists.{script_of}
use Rattle.za_script.specs.Answer.{IsAnswer}
use Rattle.za_machine.proofs.Ends.{over_has_the_answer}
use Rattle.za_table.specs.Tables.{machine_of}
use Rattle.za_table.proofs.Keeping.{machine, complete}
use Rattle.za_table.proofs.table.Table.answer.Goals as goal

pub returns-clause-answer : goal.returns-clause-answer
returns-clause-answer c =
    let t = c.args.self.now in
    let d = t.given.dfa in
    let ok = c.read_answer.ensures.table in
    let m = machine t ok in
    subst (IsAnswer (loc_of d.alphabet) (automaton_of d) (script_of t.given.scripts)) (sym c.read_answer.ensures.value)
    (over_has_the_answer (machine_of t.given) (automaton_of d) t.state m refl
    (diamonds_close_the_language (loc_of d.alphabet) d.alphabet.processes (automaton_of d) m.alphabet (total_of_complete d (complete t ok))
    c.read_answer.ensures.diamonds) ok.reached c.requires)

use Rattle.std.proofs.Common.{subst}
use Rattle.za_alpha.specs.Alphabet.{loc_of}
use Rattle.za_dfa.specs.Tables.{automaton_of}
use Rattle.za_script.specs.ScriptLists.{script_of}
use Rattle.za_script.specs.Answer.{IsAnswer}
use Rattle.za_table.specs.Ends.{EndedState}
use Rattle.za_table.proofs.ended.Ended.answer.Goals as goal

pub returns-clause-answer : goal.returns-clause-answer
returns-clause-answer c =
    subst (λ (x : EndedState). IsAnswer (loc_of x.given.dfa.alphabet) (automaton_of x.given.dfa) (script_of x.given.scripts) c.self.inside.answer)
    c.self.view_is c.self.invariant.correct

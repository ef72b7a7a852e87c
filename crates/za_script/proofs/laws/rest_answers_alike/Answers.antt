use Rattle.za_script.proofs.Alike.{rest_is_closed, rest_has_the_answer}
use Rattle.za_script.proofs.laws.rest_answers_alike.Goals as goal

pub returns-clause-closed : goal.returns-clause-closed
returns-clause-closed c = rest_is_closed

pub returns-clause-answer : goal.returns-clause-answer
returns-clause-answer c = rest_has_the_answer

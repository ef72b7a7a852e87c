use Rattle.za_machine.proofs.States.{reached_maximal, reached_weave, reached_weaves}
use Rattle.za_machine.proofs.Ends.{over_has_the_answer}
use Rattle.za_machine.proofs.laws.over_states_are_maximal.Goals as goal

pub returns-clause-maximal : goal.returns-clause-maximal
returns-clause-maximal c = reached_maximal

pub returns-clause-weave : goal.returns-clause-weave
returns-clause-weave c = reached_weave

pub returns-clause-weaves : goal.returns-clause-weaves
returns-clause-weaves c = reached_weaves

pub returns-clause-answer : goal.returns-clause-answer
returns-clause-answer c = over_has_the_answer

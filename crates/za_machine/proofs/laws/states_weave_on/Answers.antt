use Rattle.za_machine.proofs.Ends.{weaving_goes_on_from_states, rests_weave_the_same}
use Rattle.za_machine.proofs.laws.states_weave_on.Goals as goal

pub returns-clause-goes_on : goal.returns-clause-goes_on
returns-clause-goes_on c = weaving_goes_on_from_states

pub returns-clause-trace : goal.returns-clause-trace
returns-clause-trace c = rests_weave_the_same

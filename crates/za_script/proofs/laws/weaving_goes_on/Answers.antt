use Rattle.za_script.proofs.GoingOn.{weaving_goes_on, cuts_fit, cuts_weave_on, rest_is_one_trace, counts_add_up}
use Rattle.za_script.proofs.laws.weaving_goes_on.Goals as goal

pub returns-clause-goes_on : goal.returns-clause-goes_on
returns-clause-goes_on c = weaving_goes_on

pub returns-clause-fit : goal.returns-clause-fit
returns-clause-fit c = cuts_fit

pub returns-clause-cuts : goal.returns-clause-cuts
returns-clause-cuts c = cuts_weave_on

pub returns-clause-trace : goal.returns-clause-trace
returns-clause-trace c = rest_is_one_trace

pub returns-clause-counts : goal.returns-clause-counts
returns-clause-counts c = counts_add_up

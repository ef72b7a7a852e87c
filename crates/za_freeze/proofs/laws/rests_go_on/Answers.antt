use Rattle.za_freeze.proofs.RestOfJobs.{rests_weave_on, rests_count_on, rests_answer_alike, rests_hope_alike}
use Rattle.za_freeze.proofs.laws.rests_go_on.Goals as goal

pub returns-clause-weave : goal.returns-clause-weave
returns-clause-weave c = rests_weave_on

pub returns-clause-counts : goal.returns-clause-counts
returns-clause-counts c = rests_count_on

pub returns-clause-answer : goal.returns-clause-answer
returns-clause-answer c = rests_answer_alike

pub returns-clause-hope : goal.returns-clause-hope
returns-clause-hope c = rests_hope_alike

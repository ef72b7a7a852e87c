use Rattle.za_script.proofs.Answers.{accept_is_of_the_weave, reject_is_of_the_weave, stuck_is_of_the_weave}
use Rattle.za_script.proofs.Answers.{maximal_words_have_the_answer}
use Rattle.za_script.proofs.laws.answer_is_of_the_weave.Goals as goal

pub returns-clause-accept : goal.returns-clause-accept
returns-clause-accept c = accept_is_of_the_weave

pub returns-clause-reject : goal.returns-clause-reject
returns-clause-reject c = reject_is_of_the_weave

pub returns-clause-stuck : goal.returns-clause-stuck
returns-clause-stuck c = stuck_is_of_the_weave

pub returns-clause-maximal : goal.returns-clause-maximal
returns-clause-maximal c = maximal_words_have_the_answer

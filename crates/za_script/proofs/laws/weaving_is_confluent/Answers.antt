use Rattle.za_script.proofs.Confluence.{weave_is_maximal, maximal_words_are_one_trace, weave_decides, maximal_words_weave}
use Rattle.za_script.proofs.laws.weaving_is_confluent.Goals as goal

pub returns-clause-maximal : goal.returns-clause-maximal
returns-clause-maximal c = weave_is_maximal

pub returns-clause-one_trace : goal.returns-clause-one_trace
returns-clause-one_trace c = maximal_words_are_one_trace

pub returns-clause-decides : goal.returns-clause-decides
returns-clause-decides c = weave_decides

pub returns-clause-all : goal.returns-clause-all
returns-clause-all c = maximal_words_weave

use Rattle.std.proofs.Common.{refl}
use Rattle.std.specs.Prelude.{map, string_bytes}
use Rattle.zielonka.proofs.RequestLemmas.{threaded-runs}
use Rattle.zielonka.proofs.ShownLemmas.{ended-by, ended-rest}
use Rattle.zielonka.proofs.run.threaded.Goals as goal

pub answer_on_threads-requires-clause-threads : goal.answer_on_threads-requires-clause-threads
answer_on_threads-requires-clause-threads g c κs within = threaded-runs (map string_bytes c.args.words.now) c.in-Asked.command c.in-Asked.ensures.asks

pub returns-in-Asked-clause-ran : goal.returns-in-Asked-clause-ran
returns-in-Asked-clause-ran g c =
    (ended-by _ _ _ _ c.in-Asked.command c.in-Asked.it c.finish.result c.in-Asked.ensures refl refl c.answer_on_threads.result
    c.answer_on_threads.ensures.answered c.answer_on_threads.ensures.made c.finish.ensures).ran

pub returns-in-Asked-clause-shown : goal.returns-in-Asked-clause-shown
returns-in-Asked-clause-shown g c =
    (ended-by _ _ _ _ c.in-Asked.command c.in-Asked.it c.finish.result c.in-Asked.ensures refl refl c.answer_on_threads.result
    c.answer_on_threads.ensures.answered c.answer_on_threads.ensures.made c.finish.ensures).shown

pub answer_on_threads-requires-clause-whole : goal.answer_on_threads-requires-clause-whole
answer_on_threads-requires-clause-whole g c κs within = c.in-Asked.ensures.is.3

pub answer_rest-requires-clause-rest : goal.answer_rest-requires-clause-rest
answer_rest-requires-clause-rest g c κs within = (c.in-Rest.ensures.bytes, c.in-Rest.ensures.is.1)

pub returns-in-Rest-clause-ran : goal.returns-in-Rest-clause-ran
returns-in-Rest-clause-ran g c =
    (ended-rest _ _ _ _ c.in-Rest.it c.finish-in-Rest.result c.in-Rest.ensures refl refl c.answer_rest.result c.answer_rest.ensures.answered
    c.answer_rest.ensures.made c.finish-in-Rest.ensures).ran

pub returns-in-Rest-clause-shown : goal.returns-in-Rest-clause-shown
returns-in-Rest-clause-shown g c =
    (ended-rest _ _ _ _ c.in-Rest.it c.finish-in-Rest.result c.in-Rest.ensures refl refl c.answer_rest.result c.answer_rest.ensures.answered
    c.answer_rest.ensures.made c.finish-in-Rest.ensures).shown

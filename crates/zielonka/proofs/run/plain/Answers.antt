use Rattle.std.proofs.Common.{refl}
use Rattle.std.specs.Prelude.{map, string_bytes}
use Rattle.zielonka.proofs.RequestLemmas.{plain-alone}
use Rattle.zielonka.proofs.ShownLemmas.{claim-there, ended-by}
use Rattle.zielonka.proofs.run.plain.Goals as goal

pub answer_alone-requires-clause-alone : goal.answer_alone-requires-clause-alone
answer_alone-requires-clause-alone g c = plain-alone (map string_bytes c.args.words.now) c.in-Asked.command c.in-Asked.ensures.asks

pub answer_alone-requires-clause-claim : goal.answer_alone-requires-clause-claim
answer_alone-requires-clause-claim g c = claim-there c.in-Asked.command c.in-Asked.ensures.bytes c.in-Asked.it c.in-Asked.ensures.is.2

pub returns-in-Asked-clause-ran : goal.returns-in-Asked-clause-ran
returns-in-Asked-clause-ran g c =
    (ended-by _ _ _ _ c.in-Asked.command c.in-Asked.it c.finish.result c.in-Asked.ensures refl refl c.answer_alone.result c.answer_alone.ensures.answered
    c.answer_alone.ensures.made c.finish.ensures).ran

pub returns-in-Asked-clause-shown : goal.returns-in-Asked-clause-shown
returns-in-Asked-clause-shown g c =
    (ended-by _ _ _ _ c.in-Asked.command c.in-Asked.it c.finish.result c.in-Asked.ensures refl refl c.answer_alone.result c.answer_alone.ensures.answered
    c.answer_alone.ensures.made c.finish.ensures).shown

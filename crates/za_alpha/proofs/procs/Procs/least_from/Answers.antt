use Rattle.std.proofs.Common.{arith}
use Rattle.za_alpha.proofs.Members.{none-from, least-from}
use Rattle.za_alpha.proofs.RoundTrip.{small_member}
use Rattle.za_alpha.proofs.procs.Procs.least_from.Goals as goal

pub returns-then-rest-eq0-clause-least : goal.returns-then-rest-eq0-clause-least
returns-then-rest-eq0-clause-least c = none-from c.args.self c.args.start c.if-rest-eq0.true

pub returns-clause-least : goal.returns-clause-least
returns-clause-least c = least-from c.args.self c.args.start (omega arith) (omega (arith, c.if-rest-eq0.false))

pub returns-clause-small : goal.returns-clause-small
returns-clause-small c =
    small_member c.args.self _ (least-from c.args.self c.args.start (omega arith) (omega (arith, c.if-rest-eq0.false))).inside

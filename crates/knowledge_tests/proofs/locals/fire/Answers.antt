use Rattle.std.proofs.Common.{sym, subst}
use Rattle.za_local.specs.Locals.{AreAllLocalsAfter}
use Rattle.knowledge_tests.proofs.locals.fire.Goals as goal

pub fire_on-label-requires-clause-locals : goal.fire_on-label-requires-clause-locals
fire_on-label-requires-clause-locals c = (c.args.word.now, c.requires.locals)

pub returns-clause-locals : goal.returns-clause-locals
returns-clause-locals c =
    subst (λ v. AreAllLocalsAfter c.args.closed.now v c.fire_on-label.new.locals) (sym c.in_ok-push.ensures.ok)
    (c.fire_on-label.ensures.locals c.args.word.now c.requires.locals)

use Rattle.std.proofs.Common.{subst}
use Rattle.za_dfa.specs.Tables.{CompleteDfa}
use Rattle.za_shared.specs.Records.{IsTransition}
use Rattle.knowledge_tests.proofs.shared.make.Goals as goal

pub returns-clause-made : goal.returns-clause-made
returns-clause-made g c =
    subst (λ (d : CompleteDfa). IsTransition d c.args.a.0 c.gather_into.new.bench.locals c.transit.new.into) c.closed-2.ensures.value c.transit.ensures.local

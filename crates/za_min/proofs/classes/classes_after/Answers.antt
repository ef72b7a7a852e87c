use Rattle.std.specs.Option.{option_copied}
use Rattle.za_alpha.specs.Search.{least}
use Rattle.za_dfa.specs.Tables.{automaton_of}
use Rattle.za_min.specs.Private.Rounds.{same_after}
use Rattle.za_min.proofs.RoundSteps.{class-more}
use Rattle.za_min.proofs.classes.classes_after.Goals as goal

pub loop-q-preserved : goal.loop-q-preserved
loop-q-preserved c =
    class-more (λ q. least (λ r. same_after (automaton_of c.args.dfa.now) (option_copied c.args.before) r q) c.args.dfa.now.states) c.loop-q.q
    c.least_after.result c.loop-q.names.items c.push.new.self.items
    c.in_ok-push.ensures.items c.loop-q.invariant c.least_after.ensures

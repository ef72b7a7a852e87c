use Rattle.std.proofs.Common.{◌∙◌}
use Rattle.za_min.proofs.RoundSteps.{last-classes}
use Rattle.za_min.proofs.minimal.minimise.Goals as goal

pub merged-requires : goal.merged-requires
merged-requires c = last-classes c.args.dfa.now c.in_ok-rounds.rounds.items c.len.result c.index.result.now c.in_ok-rounds.ensures
    (c.len.ensures ∙ c.in_ok-rounds.rounds.ok.0) c.index.ensures

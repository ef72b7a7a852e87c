use Rattle.std.proofs.Common.{arith}
use Rattle.za_min.proofs.FoundSteps.{words-few}
use Rattle.za_min.proofs.explore.explore.Goals as goal

pub loop-at-smaller : goal.loop-at-smaller
loop-at-smaller c = let few = words-few c.args.dfa.now c.args.classes.now c.requires c.loop-at.at 0 c.loop-at.found.words.items c.loop-at.found.states.items
    c.loop-at.invariant in omega arith

pub returns : goal.returns
returns c = record { done = c.loop-at.at; found = c.loop-at.invariant; all = omega arith }

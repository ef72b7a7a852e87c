use Rattle.std.proofs.Common.{arith}
use Rattle.za_alpha.specs.Alphabet.{loc_of}
use Rattle.za_dfa.specs.Tables.{automaton_of}
use Rattle.za_dfa.proofs.DiamondLemmas.{diamonds_of_none}
use Rattle.za_dfa.proofs.broken.first_broken.Goals as goal

pub returns : goal.returns
returns c = diamonds_of_none (loc_of c.args.dfa.now.alphabet) (automaton_of c.args.dfa.now) (λ q a b l. c.loop-q.invariant q a b (omega arith))

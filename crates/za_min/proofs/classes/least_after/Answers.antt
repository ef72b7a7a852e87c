use Rattle.std.proofs.Common.{sym, ◌∙◌, arith}
use Rattle.std.specs.Option.{option_copied}
use Rattle.za_dfa.specs.Tables.{automaton_of}
use Rattle.za_alpha.proofs.Least.{least-is}
use Rattle.za_min.specs.Private.Rounds.{same_after}
use Rattle.za_min.proofs.RoundLemmas.{after-own}
use Rattle.za_min.proofs.classes.least_after.Goals as goal

pub returns-then-is_same_after : goal.returns-then-is_same_after
returns-then-is_same_after c =
    least-is (λ r. same_after (automaton_of c.args.dfa.now) (option_copied c.args.before) r c.args.q) c.args.dfa.now.states c.loop-r.r
    (omega arith) c.loop-r.invariant
    (sym c.is_same_after.ensures ∙ c.if-is_same_after.true)

pub returns : goal.returns
returns c =
    least-is (λ r. same_after (automaton_of c.args.dfa.now) (option_copied c.args.before) r c.args.q) c.args.dfa.now.states c.args.q c.requires.state
    (λ k l. c.loop-r.invariant k (omega arith)) (after-own (automaton_of c.args.dfa.now) (option_copied c.args.before) c.args.q)

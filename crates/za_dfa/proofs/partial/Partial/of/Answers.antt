use Rattle.std.proofs.Common.{◌≡◌, sym, subst, rules}
use Rattle.za_dfa.specs.Partials.{whole_of, IsPartial}
use Rattle.za_dfa.specs.Private.Views.{partial_of_inside}
use Rattle.za_dfa.proofs.Completing.{whole_partial}
use Rattle.za_dfa.proofs.partial.Partial.of.Goals as goal

pub invariant_of-result : goal.invariant_of-result
invariant_of-result c =
    let same : partial_of_inside (record {
      alphabet = c.in_ok-alphabet.alphabet;
      states = c.states.result;
      start = c.start.result;
      accepting =
          c.in_ok-accepting.accepting;
      targets = c.in_ok-targets.targets;
    }) ≡ whole_of c.args.dfa.now = search rules in
    subst IsPartial (sym same) (whole_partial c.args.dfa.now c.states.ensures.whole c.requires)

pub returns-clause-whole : goal.returns-clause-whole
returns-clause-whole c =
    let same : partial_of_inside (record {
      alphabet = c.in_ok-alphabet.alphabet;
      states = c.states.result;
      start = c.start.result;
      accepting =
          c.in_ok-accepting.accepting;
      targets = c.in_ok-targets.targets;
    }) ≡ whole_of c.args.dfa.now = search rules in
    subst IsPartial (sym same) (whole_partial c.args.dfa.now c.states.ensures.whole c.requires)

use Rattle.std.proofs.Common.{[], sym, subst}
use Rattle.za_dfa.specs.Partials.{PartialDfa}
use Rattle.za_dfa.specs.Entered.{AreEntered}
use Rattle.za_dfa.proofs.EnteredLemmas.{entered_none}
use Rattle.za_dfa.proofs.rows.partial_of.Goals as goal

pub enter_all-requires-clause-entered : goal.enter_all-requires-clause-entered
enter_all-requires-clause-entered c =
    subst (λ (p : PartialDfa). AreEntered p []) (sym c.in-Ok.ensures.value) (entered_none c.args.alphabet c.args.start c.args.accepting.items)

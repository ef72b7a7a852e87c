use Rattle.std.proofs.Common.{refl}
use Rattle.za_closure.proofs.CloseSteps.{closed_of_diamonds, diamonds-along, words_of_given}
use Rattle.za_closure.proofs.closing.close.Goals as goal

pub of_diamonds-requires : goal.of_diamonds-requires
of_diamonds-requires c = diamonds-along c.dfa.result.now c.in_ok-minimal.minimal.dfa c.into_dfa.result c.dfa.ensures.value c.into_dfa.ensures c.in-None.ensures

pub returns-in-None-clause-closed : goal.returns-in-None-clause-closed
returns-in-None-clause-closed c =
    let minimal = c.in_ok-minimal.minimal.dfa in
    closed_of_diamonds c.args.dfa.now minimal c.in_ok-minimal.ensures.minimal
    (diamonds-along c.dfa.result.now minimal minimal c.dfa.ensures.value refl c.in-None.ensures)

pub returns-in_ok-left-in-Some-clause-refused : goal.returns-in_ok-left-in-Some-clause-refused
returns-in_ok-left-in-Some-clause-refused c =
    words_of_given c.args.dfa.now c.in_ok-minimal.minimal.dfa c.in_ok-left-in-Some.left c.in_ok-left-in-Some.right c.in_ok-minimal.ensures.minimal
    c.in_ok-left-in-Some.ensures

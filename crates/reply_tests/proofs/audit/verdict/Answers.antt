use Rattle.std.proofs.Common.{subst}
use Rattle.za_alpha.specs.Alphabet.{loc_of}
use Rattle.za_dfa.specs.Automata.{IsTraceClosed}
use Rattle.za_dfa.specs.Tables.{CompleteDfa, automaton_of}
use Rattle.reply_tests.proofs.audit.verdict.Goals as goal

pub audit-requires-clause-closed : goal.audit-requires-clause-closed
audit-requires-clause-closed c =
    subst (λ (d : CompleteDfa). IsTraceClosed (loc_of d.alphabet) (automaton_of d)) c.in_ok-dfa.ensures c.in-Ok.ensures.closed

use Rattle.std.proofs.Common.{ap, subst, ◌∙◌}
use Rattle.za_alpha.specs.Alphabet.{loc_of}
use Rattle.za_dfa.specs.Automata.{is_accepted}
use Rattle.za_dfa.specs.Tables.{CompleteDfa, automaton_of, IsComplete}
use Rattle.za_dfa.proofs.TableLemmas.{total_of_complete}
use Rattle.callers.proofs.automata.accepts_trace.Goals as goal

pub returns : goal.returns
returns c v word same =
    let d = c.args.closed.now in
    let value = c.dfa-dfa.ensures.value in
    let whole = subst IsComplete value c.states-states.ensures.whole in
    c.accepts.ensures ∙ ap (λ (x : CompleteDfa). is_accepted (automaton_of x) c.args.w.now) value
    ∙ c.diamonds_close_the_language.ensures.closed (loc_of d.alphabet) d.alphabet.processes (automaton_of d) whole.distributed.located
    (total_of_complete d whole) c.dfa-dfa.ensures.diamonds
    c.args.w.now v c.requires word same

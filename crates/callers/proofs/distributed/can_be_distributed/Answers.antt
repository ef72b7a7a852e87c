use Rattle.std.proofs.Common.{refl}
use Rattle.za_alpha.specs.Alphabet.{loc_of}
use Rattle.za_dfa.specs.Tables.{automaton_of}
use Rattle.za_dfa.proofs.TableLemmas.{total_of_complete}
use Rattle.za_closure.specs.Breaks.{AreBreakWords}
use Rattle.callers.proofs.distributed.can_be_distributed.Goals as goal

-- the language is closed: then the theorem gives the asynchronous automaton
pub returns-in-Ok : goal.returns-in-Ok
returns-in-Ok c =
    let d = c.args.dfa.now in
    let whole = c.states-states.ensures.whole in
    let both =
    c.zielonka.ensures.automata (loc_of d.alphabet) d.alphabet.processes (automaton_of d) whole.distributed.located.below
    (total_of_complete d whole) in
    (λ yes. both.1 c.in-Ok.ensures.closed, λ z. refl)

-- it has a break: then there is none
pub returns-in-NotClosed : goal.returns-in-NotClosed
returns-in-NotClosed c =
    let d = c.args.dfa.now in
    let whole = c.states-states.ensures.whole in
    let both =
    c.zielonka.ensures.automata (loc_of d.alphabet) d.alphabet.processes (automaton_of d) whole.distributed.located.below
    (total_of_complete d whole) in
    let unbroken = c.closed_languages.ensures.unbroken (loc_of d.alphabet) d.alphabet.processes (automaton_of d) whole.distributed.located in
    let words : AreBreakWords d c.in-NotClosed.left c.in-NotClosed.right = rw c.in-NotClosed.is at c.in-Err.ensures.refused in
    (λ no. cc, λ z. absurd (unbroken.0 (both.0 z) words.0 words.1.is))

use Rattle.std.proofs.Common.{sym, ◌∙◌}
use Rattle.za_dfa.specs.Automata.{is_accepted}
use Rattle.za_dfa.specs.Tables.{automaton_of}
use Rattle.za_closure.specs.Breaks.{AreBreakWords}
use Rattle.callers.proofs.BreakWords.{words-equivalent, words-told, other-false, other-true}
use Rattle.callers.proofs.closure.told_apart.Goals as goal

pub returns-then-accepts : goal.returns-then-accepts
returns-then-accepts c =
    let dfa = c.args.dfa.now in
    let left = c.in-NotClosed.left in
    let right = c.in-NotClosed.right in
    let words : AreBreakWords dfa left right = rw c.in-NotClosed.is at c.in-Err.ensures.refused in
    let yes = sym c.accepts.ensures ∙ c.if-accepts.true in (
      words-equivalent dfa left right c.states-states.ensures.whole words,
      yes,
      other-false (is_accepted (automaton_of dfa) left) (is_accepted (automaton_of dfa) right) (words-told dfa left right words) yes,
    )

pub returns-else-accepts : goal.returns-else-accepts
returns-else-accepts c =
    let dfa = c.args.dfa.now in
    let left = c.in-NotClosed.left in
    let right = c.in-NotClosed.right in
    let words : AreBreakWords dfa left right = rw c.in-NotClosed.is at c.in-Err.ensures.refused in
    let no = sym c.accepts.ensures ∙ c.if-accepts.false in (
      (λ p. sym (words-equivalent dfa left right c.states-states.ensures.whole words p)),
      other-true (is_accepted (automaton_of dfa) left) (is_accepted (automaton_of dfa) right) (words-told dfa left right words) no,
      no,
    )

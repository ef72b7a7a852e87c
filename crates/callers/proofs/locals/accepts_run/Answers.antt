use Rattle.std.proofs.Common.{◌≡◌, ℕ, ◌<◌, ap, subst, sym, ◌∙◌}
use Rattle.za_dfa.specs.Automata.{walk}
use Rattle.za_dfa.specs.Tables.{CompleteDfa, IsComplete, automaton_of, accepts_at, step_of}
use Rattle.za_dfa.proofs.Diamonds.{walk-below}
use Rattle.za_dfa.proofs.TableLemmas.{total_of_complete}
use Rattle.callers.proofs.locals.accepts_run.Goals as goal

pub accepting-requires : goal.accepting-requires
accepting-requires c =
    let d = c.args.closed.now in
    let value = c.dfa-dfa.ensures.value in
    let whole = subst IsComplete value c.states-states.ensures.whole in
    let total = total_of_complete d whole in
    let w = c.requires.0 in
    let below = walk-below (automaton_of d) total d.start w total.starts c.requires.1.word in
    subst (λ (x : CompleteDfa). c.verdict.result < x.states) (sym value) (subst (λ q. q < d.states) (sym (c.verdict.ensures w c.requires.1)) below)

pub returns : goal.returns
returns c w after =
    c.accepting.ensures ∙ ap (λ (x : CompleteDfa). accepts_at x c.verdict.result) c.dfa-dfa.ensures.value
    ∙ ap (accepts_at c.args.closed.now) (c.verdict.ensures w after)

use Rattle.std.proofs.Common.{refl, sym, ap, subst, ◌∙◌}
use Rattle.za_dfa.specs.Automata.{walk}
use Rattle.za_dfa.specs.Tables.{automaton_of, step_of}
use Rattle.za_min.specs.Live.{IsAlive}
use Rattle.callers.proofs.hopes.can_still_be_accepted.Goals as goal

pub returns-in-Alive : goal.returns-in-Alive
returns-in-Alive c =
    let d = automaton_of c.args.dfa.now in
    let law = c.alive_states_continue_words.ensures d c.args.w.now in
    let there = c.run-there.ensures.value ∙ ap (λ q. walk (step_of c.args.dfa.now) q c.args.w.now) c.start.ensures.value in
    (λ t. law.1 (subst (IsAlive d) there (c.in-Alive.ensures d c.in_ok-live.ensures)), λ k. refl)

pub returns : goal.returns
returns c =
    let d = automaton_of c.args.dfa.now in
    let law = c.alive_states_continue_words.ensures d c.args.w.now in
    let there = c.run-there.ensures.value ∙ ap (λ q. walk (step_of c.args.dfa.now) q c.args.w.now) c.start.ensures.value in
    (λ t. cc, λ k. absurd (c.in-Dead.ensures d c.in_ok-live.ensures (subst (IsAlive d) (sym there) (law.0 k))))

use Rattle.std.proofs.Common.{◌≡◌, length, sym, ap, subst, ◌∙◌}
use Rattle.za_alpha.specs.Words.{IsWord}
use Rattle.za_dfa.specs.Automata.{walk}
use Rattle.za_dfa.specs.Tables.{CompleteDfa, automaton_of, step_of}
use Rattle.za_min.specs.Live.{IsHope}
use Rattle.za_hope.specs.Hopes.{GoesWith}
use Rattle.zielonka.proofs.DueLemmas.{ok_map}
use Rattle.zielonka.proofs.due.hope_after.Goals as goal

pub run-state-requires-clause-word : goal.run-state-requires-clause-word
run-state-requires-clause-word c =
    subst (λ (d : CompleteDfa). IsWord (length d.alphabet.letters) c.word.result.now) (sym c.dfa-dfa.ensures.value)
    (subst (λ w. IsWord (length c.args.closed.now.alphabet.letters) w) (sym c.word.ensures) c.requires)

pub returns : goal.returns
returns c =
    let closed = c.args.closed.now in
    let answer = c.args.answer in
    let w = c.args.woven.now.word in
    let d = c.dfa-dfa.result.now in
    let there : c.run-state.result ≡ walk (step_of d) d.start w =
    c.run-state.ensures.value ∙ ap (λ q. walk (step_of d) q c.word.result.now) c.start.ensures.value
    ∙ ap (walk (step_of d) d.start) c.word.ensures in
    ok_map c.hope_of.result (GoesWith (IsHope (automaton_of d) c.run-state.result) answer)
    (GoesWith (IsHope (automaton_of closed) (walk (step_of closed) closed.start w)) answer)
    (λ hope goes. subst (λ (e : CompleteDfa). GoesWith (IsHope (automaton_of e) (walk (step_of e) e.start w)) answer hope) c.dfa-dfa.ensures.value
    (subst (λ q. GoesWith (IsHope (automaton_of d) q) answer hope) there goes))
    c.hope_of.ensures

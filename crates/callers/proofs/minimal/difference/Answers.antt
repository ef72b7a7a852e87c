use Rattle.std.proofs.Common.{length, ap, ◌∙◌}
use Rattle.za_alpha.specs.Alphabet.{DistributedAlphabet}
use Rattle.za_dfa.specs.Automata.{walk}
use Rattle.za_dfa.specs.Tables.{CompleteDfa, automaton_of, step_of}
use Rattle.callers.proofs.FewStates.{difference-is}
use Rattle.callers.proofs.minimal.difference.Goals as goal

pub returns : goal.returns
returns c =
    let found = c.in_ok-minimal.ensures.minimal in
    let m = c.in_ok-minimal.minimal.dfa in
    let u = c.args.u.now in
    let v = c.args.v.now in
    let value = c.dfa-table.ensures.value in
    difference-is (automaton_of c.args.dfa.now) (automaton_of m) u v c.run-q.result c.run-r.result c.apart.result
    (ap (λ (a : DistributedAlphabet). length a.letters) found.alphabet) found.language
    c.requires.first c.requires.second
    (c.run-q.ensures.value ∙ ap (λ s. walk (step_of c.dfa-table.result.now) s u) c.start.ensures.value
    ∙ ap (λ (x : CompleteDfa). walk (step_of x) x.start u) value)
    (c.run-r.ensures.value ∙ ap (λ s. walk (step_of c.dfa-table.result.now) s v) c.start-2.ensures.value
    ∙ ap (λ (x : CompleteDfa). walk (step_of x) x.start v) value)
    c.apart.ensures

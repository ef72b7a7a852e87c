use Rattle.std.proofs.Common.{◌≡◌, ◌<◌, ap, sym, ◌∙◌, length, slice_index, arith}
use Rattle.za_dfa.specs.Tables.{automaton_of}
use Rattle.za_min.proofs.RoundLemmas.{next-from}
use Rattle.za_min.proofs.RoundSteps.{not-same-next}
use Rattle.za_min.proofs.classes.Classes.is_same_next.Goals as goal

pub returns-then-of-2 : goal.returns-then-of-2
returns-then-of-2 c =
    let letters : length c.alphabet.result.now.letters ≡ length c.args.dfa.now.alphabet.letters = ap (λ x. length x.letters) c.alphabet.ensures in
    let within : c.loop-a.a < length c.args.dfa.now.alphabet.letters = omega arith in
    not-same-next (automaton_of c.args.dfa.now) c.args.self.now c.args.q c.args.r c.loop-a.a within
    (λ e. c.if-of-2.true (c.of-in-loop-a.ensures ∙ ap (slice_index c.args.self.now) c.step.ensures.value ∙ e
    ∙ sym (ap (slice_index c.args.self.now) c.step-in-loop-a.ensures.value) ∙ sym c.of-in-loop-a-2.ensures))

pub returns : goal.returns
returns c =
    let letters : length c.alphabet.result.now.letters ≡ length c.args.dfa.now.alphabet.letters = ap (λ x. length x.letters) c.alphabet.ensures in
    sym (next-from (automaton_of c.args.dfa.now) c.args.self.now c.args.q c.args.r (sym c.of.ensures ∙ c.if-of.false ∙ c.of-2.ensures)
    (λ a l. let within : a < length c.args.dfa.now.alphabet.letters = l in c.loop-a.invariant a (omega arith)))

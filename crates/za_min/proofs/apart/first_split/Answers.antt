use Rattle.std.proofs.Common.{◌≡◌, ap, sym, ◌∙◌, length, slice_index, arith, ◌==◌}
use Rattle.std.proofs.lemmas.Bool.{ne_eqb, not_from_false}
use Rattle.za_dfa.specs.Tables.{automaton_of, step_of}
use Rattle.za_alpha.proofs.Least.{least-is, least-none}
use Rattle.za_min.specs.Private.Rounds.{splits}
use Rattle.za_min.proofs.apart.first_split.Goals as goal

pub returns-then-of : goal.returns-then-of
returns-then-of c =
    let letters : c.letters-letters.result ≡ length c.args.dfa.now.alphabet.letters = c.letters-letters.ensures.value
    ∙ ap (λ x. length x.letters) c.alphabet.ensures in
    let left : c.of.result ≡ slice_index c.args.classes.now (step_of c.args.dfa.now c.args.q c.loop-a.a) = c.of.ensures
    ∙ ap (slice_index c.args.classes.now) c.step.ensures.value in
    let right : c.of-in-loop-a.result ≡ slice_index c.args.classes.now (step_of c.args.dfa.now c.args.r c.loop-a.a) = c.of-in-loop-a.ensures
    ∙ ap (slice_index c.args.classes.now) c.step-in-loop-a.ensures.value in
    let x = slice_index c.args.classes.now (step_of c.args.dfa.now c.args.q c.loop-a.a) in
    let y = slice_index c.args.classes.now (step_of c.args.dfa.now c.args.r c.loop-a.a) in
    least-is (splits (automaton_of c.args.dfa.now) c.args.classes.now c.args.q c.args.r) (length c.args.dfa.now.alphabet.letters) c.loop-a.a
    (omega arith) c.loop-a.invariant
    (not_from_false (x == y) (ne_eqb x y (λ e. c.if-of.true (left ∙ e ∙ sym right))))

pub returns : goal.returns
returns c =
    let letters : c.letters-letters.result ≡ length c.args.dfa.now.alphabet.letters = c.letters-letters.ensures.value
    ∙ ap (λ x. length x.letters) c.alphabet.ensures in
    letters ∙ least-none (splits (automaton_of c.args.dfa.now) c.args.classes.now c.args.q c.args.r) (length c.args.dfa.now.alphabet.letters)
    (λ k l. c.loop-a.invariant k (omega arith))

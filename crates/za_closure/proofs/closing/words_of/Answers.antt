use Rattle.za_alpha.specs.Letters.{numbers}
use Rattle.za_min.specs.Minimal.{word_at}
use Rattle.za_closure.proofs.CloseSteps.{joined_is, words_of_broken}
use Rattle.za_closure.proofs.closing.words_of.Goals as goal

pub returns : goal.returns
returns c =
    let q = c.args.first.state in
    let a = c.args.first.left.0 in
    let b = c.args.first.right.0 in
    let u = word_at c.args.minimal.now.access q in
    let v = c.unwrap-after.result in
    words_of_broken c.args.minimal.now c.dfa-dfa.result.now c.dfa-dfa.ensures.whole c.dfa-dfa.ensures.minimal c.dfa-dfa.ensures.value q a b c.step.result
    c.step-x.result c.step-2.result c.step-y.result
    c.step.ensures.value c.step-x.ensures.value c.step-2.ensures.value c.step-y.ensures.value c.requires c.in_ok-apart.field-0 v c.in_ok-apart.ensures
    c.unwrap-after.ensures
    c.in_ok-given.given c.in_ok-swapped.swapped
    (joined_is c.in_ok-given.given (numbers c.access-before.result.now) u (numbers c.letters.result.now) v a b c.in_ok-given.ensures c.access-before.ensures
    c.letters.ensures)
    (joined_is c.in_ok-swapped.swapped (numbers c.access-before.result.now) u (numbers c.letters-2.result.now) v b a c.in_ok-swapped.ensures
    c.access-before.ensures c.letters-2.ensures)

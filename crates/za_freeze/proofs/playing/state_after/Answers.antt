use Rattle.std.proofs.Common.{◌≡◌, ◌<◌, length, sym, ap, subst, ◌∙◌, arith}
use Rattle.std.proofs.lemmas.List.{length-take-le, take_all}
use Rattle.za_dfa.specs.Tables.{IsComplete, automaton_of}
use Rattle.za_dfa.proofs.Diamonds.{walk-below}
use Rattle.za_dfa.proofs.TableLemmas.{total_of_complete}
use Rattle.za_local.specs.Locals.{HasShape, AreAllLocalsAfter}
use Rattle.za_local.proofs.Given.{locals-length, local-at}
use Rattle.za_local.proofs.Shapes.{shape-after}
use Rattle.za_freeze.proofs.playing.state_after.Goals as goal

pub add-requires-clause-room : goal.add-requires-clause-room
add-requires-clause-room c =
    let k = c.loop-local.invariant in
    let long = locals-length c.args.closed.now c.requires.0 c.args.locals.now c.requires.1 in
    let t = c.loop-local-test.true in
    let first = ap length k.2 ∙ length-take-le c.loop-local.local-index c.args.locals.now (omega arith) in
    let n = k.0 in
    omega arith

pub add-requires-clause-shape : goal.add-requires-clause-shape
add-requires-clause-shape c =
    let d = c.args.closed.now in
    let k = c.loop-local.invariant in
    let w = c.requires.0 in
    let long = locals-length d w c.args.locals.now c.requires.1 in
    let t = c.loop-local-test.true in
    let is = c.local-item.is ∙ local-at d w c.args.locals.now c.requires.1 c.loop-local.local-index c.local-item.result (omega arith) in
    subst (λ m. HasShape m c.loop-local.bench.states c.local-item.result) (sym k.0)
    (subst (λ s. HasShape d.alphabet.processes s c.local-item.result) (sym k.1)
    (subst (HasShape d.alphabet.processes d.states) (sym is) (shape-after d w c.loop-local.local-index)))

pub returns-clause-within : goal.returns-clause-within
returns-clause-within c =
    let d = c.args.closed.now in
    let locals = c.args.locals.now in
    let w = c.requires.0 in
    let value = c.dfa.ensures.value in
    let total = total_of_complete d (subst IsComplete value c.states-states.ensures.whole) in
    let below = walk-below (automaton_of d) total d.start w total.starts c.requires.1.word in
    let all : c.loop-local.bench.locals ≡ locals = c.loop-local.invariant.2 ∙ take_all c.loop-local.local-index locals (omega arith) in
    subst (λ q. q < d.states) (sym (c.verdict.ensures w (subst (AreAllLocalsAfter d w) (sym all) c.requires.1))) below

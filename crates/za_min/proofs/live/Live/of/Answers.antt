use Rattle.std.proofs.Common.{subst, arith}
use Rattle.za_dfa.specs.Tables.{automaton_of}
use Rattle.za_dfa.proofs.TableLemmas.{total_of_complete}
use Rattle.za_min.proofs.Spreading.{missing-falls, accepting-sound, next-sound, spread-live}
use Rattle.za_min.specs.Private.Spreading.{IsNext, AreSpread}
use Rattle.za_min.proofs.live.Live.of.Goals as goal

pub spreading-init : goal.spreading-init
spreading-init c = accepting-sound c.args.dfa.now c.in_ok-marks.marks.items c.states-states.ensures.whole c.in_ok-marks.ensures

pub spreading-preserved : goal.spreading-preserved
spreading-preserved c =
    next-sound (automaton_of c.args.dfa.now) c.spreading.marks.items c.in-Some.q
    (total_of_complete c.args.dfa.now c.states-states.ensures.whole) c.spreading.invariant
    (subst (λ xs. IsNext (automaton_of c.args.dfa.now) xs c.in-Some.q) c.as_slice.ensures.value c.in-Some.ensures)

pub returns : goal.returns
returns c =
    spread-live (automaton_of c.args.dfa.now) c.spreading.marks.items (total_of_complete c.args.dfa.now c.states-states.ensures.whole) c.spreading.invariant
    (subst (AreSpread (automaton_of c.args.dfa.now)) c.as_slice.ensures.value c.in_default.ensures)

pub spreading-smaller : goal.spreading-smaller
spreading-smaller c =
    let n = subst (λ xs. IsNext (automaton_of c.args.dfa.now) xs c.in-Some.q) c.as_slice.ensures.value c.in-Some.ensures in
    missing-falls c.spreading.marks.items c.in-Some.q (let s = n.state in let e = c.spreading.invariant.one_each in omega arith) n.unmarked

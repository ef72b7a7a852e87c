use Rattle.std.proofs.Common.{◌≡◌, ℕ, List, [], ◌∷◌, ◌++◌, Some, length, IsTrue, sym, ap, subst, ◌∙◌}
use Rattle.za_alpha.specs.Words.{has}
use Rattle.za_alpha.specs.Alphabet.{DistributedAlphabet, IsDistributed, loc_of}
use Rattle.za_order.specs.Labels.{label}
use Rattle.za_dfa.specs.Tables.{CompleteDfa}
use Rattle.za_gossip.specs.Rows.{rows_after}
use Rattle.za_local.specs.Locals.{LocalState, local_after, AreLocalsAfter, HasShape}
use Rattle.za_local.proofs.Shapes.{shape-after}
use Rattle.za_local.proofs.LocalLaws.{same-locals}
use Rattle.za_local.proofs.FromBench.{rows-given, residues-given, masks-given}
use Rattle.za_local.proofs.transitions.transit.Goals as goal
use Rattle.za_local.proofs.transitions.transit.Goals.{After-gossips, After-advance-2}

-- the alphabet is that of the automaton
alphabet : (c : After-gossips) → c.alphabet-alphabet.result.now ≡ c.args.closed.now.alphabet
alphabet c = c.alphabet-alphabet.ensures ∙ ap (λ (d : CompleteDfa). d.alphabet) c.dfa.ensures.value

pub set_masks-requires-clause-rows : goal.set_masks-requires-clause-rows
set_masks-requires-clause-rows c = (
  c.requires.locals.0,
  rows-given c.args.closed.now c.alphabet-alphabet.result.now (alphabet (goal.at.set_masks-requires-clause-rows c).After-gossips)
      (Some c.args.a) c.args.bench.now.locals c.gossips.result.now c.gossips.ensures
      c.requires.locals.0 c.requires.locals.1,
)

pub advance-requires-clause-given : goal.advance-requires-clause-given
advance-requires-clause-given c =
    let d = c.args.closed.now in
    let same = alphabet (goal.at.advance-requires-clause-given c).After-gossips in (
      c.requires.locals.0,
      residues-given d c.alphabet-alphabet.result.now same (Some c.args.a) c.args.bench.now.locals c.residues.result.now c.residues.ensures c.requires.locals.0
          c.requires.locals.1,
      masks-given d c.alphabet-alphabet.result.now same (Some c.args.a) c.args.bench.now.locals c.gossips.result.now c.gossips.ensures c.set_masks.new.masks
          c.set_masks.ensures.masks c.requires.locals.0
          c.requires.locals.1,
    )

pub advance-requires-2-clause-rows : goal.advance-requires-2-clause-rows
advance-requires-2-clause-rows c = (
  c.requires.locals.0,
  rows-given c.args.closed.now c.alphabet-alphabet.result.now (alphabet (goal.at.advance-requires-2-clause-rows c).After-gossips)
      (Some c.args.a) c.args.bench.now.locals c.gossips-2.result.now c.gossips-2.ensures
      c.requires.locals.0 c.requires.locals.1,
)

pub returns-clause-label : goal.returns-clause-label
returns-clause-label c = λ w given.
    let same = alphabet (goal.at.returns-clause-label c).After-gossips in
    c.advance-2.ensures.label w
    (rows-given c.args.closed.now c.alphabet-alphabet.result.now same (Some c.args.a) c.args.bench.now.locals c.gossips-2.result.now c.gossips-2.ensures w
    given)
    ∙ ap (λ (al : DistributedAlphabet). label (loc_of al) al.processes (w ++ c.args.a.0 ∷ []) (length w)) same

-- the local state that was written
abbrev record_of : (c : After-advance-2) → LocalState
record_of c = record { gossip = c.advance-2.new.into; residues = c.advance.new.into }

written : (c : After-advance-2) (w : List ℕ) → AreLocalsAfter c.args.closed.now w (loc_of c.args.closed.now.alphabet c.args.a.0) c.args.bench.now.locals →
    (x : ℕ) → IsTrue (has (loc_of c.args.closed.now.alphabet c.args.a.0) x) → record_of c ≡ local_after c.args.closed.now (w ++ c.args.a.0 ∷ []) x
written c w given x h =
    let d = c.args.closed.now in
    let al = c.alphabet-alphabet.result.now in
    let same = alphabet (goal.at.After-advance-2 c).After-gossips in
    let locals = c.args.bench.now.locals in
    let rows : c.advance-2.new.into ≡ rows_after (loc_of d.alphabet) d.alphabet.processes (w ++ c.args.a.0 ∷ []) x =
    c.advance-2.ensures.rows w (rows-given d al same (Some c.args.a) locals c.gossips-2.result.now c.gossips-2.ensures w given) x
    (subst (λ (al : DistributedAlphabet). IsTrue (has (loc_of al c.args.a.0) x)) (sym same) h)
    ∙ ap (λ (al : DistributedAlphabet). rows_after (loc_of al) al.processes (w ++ c.args.a.0 ∷ []) x) same in
    same-locals (record_of c) (local_after d (w ++ c.args.a.0 ∷ []) x) rows
    (c.advance.ensures w
    (residues-given d al same (Some c.args.a) locals c.residues.result.now c.residues.ensures w given)
    (masks-given d al same (Some c.args.a) locals c.gossips.result.now c.gossips.ensures c.set_masks.new.masks c.set_masks.ensures.masks w given) x h)

-- it is for the processes and states of the automaton
shape : (c : After-advance-2) → HasShape c.args.closed.now.alphabet.processes c.args.closed.now.states (record_of c)
shape c =
    let d = c.args.closed.now in
    let whole = subst IsDistributed (alphabet (goal.at.After-advance-2 c).After-gossips) c.set_masks.ensures.whole in
    let p = whole.located.some c.args.a.0 c.requires.letter in
    let w = c.requires.locals.0 in
    subst (HasShape d.alphabet.processes d.states) (sym (written c w c.requires.locals.1 p.0 p.1)) (shape-after d (w ++ c.args.a.0 ∷ []) p.0)

pub invariant_of-into : goal.invariant_of-into
invariant_of-into c = let s = shape (goal.at.invariant_of-into c).After-advance-2 in s.gossip ∙ sym s.processes

pub returns-clause-local : goal.returns-clause-local
returns-clause-local c = written (goal.at.returns-clause-local c).After-advance-2

pub returns-clause-shape : goal.returns-clause-shape
returns-clause-shape c = shape (goal.at.returns-clause-shape c).After-advance-2

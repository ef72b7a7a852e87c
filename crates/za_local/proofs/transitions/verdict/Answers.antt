use Rattle.std.proofs.Common.{◌≡◌, None, ap, ◌∙◌}
use Rattle.za_dfa.specs.Tables.{CompleteDfa}
use Rattle.za_local.proofs.FromBench.{rows-given, residues-given, masks-given}
use Rattle.za_local.proofs.transitions.verdict.Goals as goal
use Rattle.za_local.proofs.transitions.verdict.Goals.{After-gossips}

-- the alphabet is that of the automaton
alphabet : (c : After-gossips) → c.alphabet.result.now ≡ c.args.closed.now.alphabet
alphabet c = c.alphabet.ensures ∙ ap (λ (d : CompleteDfa). d.alphabet) c.dfa.ensures.value

pub set_masks-requires-clause-rows : goal.set_masks-requires-clause-rows
set_masks-requires-clause-rows c = (
  c.requires.0,
  rows-given c.args.closed.now c.alphabet.result.now (alphabet (goal.at.set_masks-requires-clause-rows c).After-gossips) None c.args.bench.now.locals
      c.gossips.result.now c.gossips.ensures c.requires.0 c.requires.1,
)

pub join_all-requires : goal.join_all-requires
join_all-requires c =
    let d = c.args.closed.now in
    let same = alphabet (goal.at.join_all-requires c).After-gossips in (
      c.requires.0,
      residues-given d c.alphabet.result.now same None c.args.bench.now.locals c.residues.result.now c.residues.ensures c.requires.0 c.requires.1,
      masks-given d c.alphabet.result.now same None c.args.bench.now.locals c.gossips.result.now c.gossips.ensures c.set_masks.new.masks
          c.set_masks.ensures.masks c.requires.0 c.requires.1,
    )

pub returns : goal.returns
returns c = λ w given.
    let d = c.args.closed.now in
    let same = alphabet (goal.at.returns c).After-gossips in
    c.join_all.ensures w
    (residues-given d c.alphabet.result.now same None c.args.bench.now.locals c.residues.result.now c.residues.ensures w given)
    (masks-given d c.alphabet.result.now same None c.args.bench.now.locals c.gossips.result.now c.gossips.ensures c.set_masks.new.masks
    c.set_masks.ensures.masks w given)

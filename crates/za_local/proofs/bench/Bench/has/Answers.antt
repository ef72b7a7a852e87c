use Rattle.std.proofs.Common.{◌≡◌, ℕ, true, false, Some, length, get_or, slice_get, sym, ap, ◌∙◌, arith}
use Rattle.za_gossip.specs.Rows.{Rows}
use Rattle.za_residue.specs.Functions.{Functions}
use Rattle.za_local.specs.Locals.{LocalState}
use Rattle.za_local.specs.Benches.{LocalStates}
use Rattle.za_local.proofs.Benches.{place-of, local-there}
use Rattle.za_local.proofs.LocalLaws.{same-locals}
use Rattle.za_local.proofs.bench.Bench.has.Goals as goal

pub index-requires : goal.index-requires
index-requires c = let l = place-of c.self.inside c.self.invariant c.args.self.now c.self.view_is c.args.i c.requires.place in let v =
    c.self.inside.gossips.ok.0 in omega arith

pub same_gossip-requires : goal.same_gossip-requires
same_gossip-requires c =
    let l = place-of c.self.inside c.self.invariant c.args.self.now c.self.view_is c.args.i c.requires.place in
    let size : Rows → ℕ = λ rows. length rows.primary in
    ap size c.index.ensures ∙ c.self.invariant.rows c.args.i c.index.result.now l.1 ∙ ap (λ (b : LocalStates). b.processes) c.self.view_is
    ∙ sym c.requires.shape.gossip ∙ ap size (sym c.gossip.ensures)

pub index-requires-then-same_gossip : goal.index-requires-then-same_gossip
index-requires-then-same_gossip c = let l = place-of c.self.inside c.self.invariant c.args.self.now c.self.view_is c.args.i c.requires.place in let v =
    c.self.inside.residues.ok.0 in omega arith

pub equals-requires-clause-processes : goal.equals-requires-clause-processes
equals-requires-clause-processes c =
    let l = place-of c.self.inside c.self.invariant c.args.self.now c.self.view_is c.args.i c.requires.place in
    let size : Functions → ℕ = λ f. f.processes in
    ap size c.index-then-same_gossip.ensures ∙ c.self.invariant.processes c.args.i c.index-then-same_gossip.result.now l.2
    ∙ ap (λ (b : LocalStates). b.processes) c.self.view_is
    ∙ sym c.requires.shape.processes ∙ ap size (sym c.residues.ensures)

pub equals-requires-clause-states : goal.equals-requires-clause-states
equals-requires-clause-states c =
    let l = place-of c.self.inside c.self.invariant c.args.self.now c.self.view_is c.args.i c.requires.place in
    let size : Functions → ℕ = λ f. f.states in
    ap size c.index-then-same_gossip.ensures ∙ c.self.invariant.states c.args.i c.index-then-same_gossip.result.now l.2
    ∙ ap (λ (b : LocalStates). b.states) c.self.view_is
    ∙ sym c.requires.shape.states ∙ ap size (sym c.residues.ensures)

pub returns-then-same_gossip : goal.returns-then-same_gossip
returns-then-same_gossip c =
    let g : Rows = c.index.result.now in
    let f : Functions = c.index-then-same_gossip.result.now in
    let local : LocalState = c.args.local.now in
    let own : LocalState = record { gossip = get_or c.self.inside.gossips.items c.args.i g; residues = get_or c.self.inside.residues.items c.args.i f } in
    let is : slice_get c.args.self.now.locals c.args.i ≡ Some own = local-there c.self.inside c.self.invariant c.args.self.now c.self.view_is c.args.i g f
    c.requires.place in
    let first : own.gossip ≡ local.gossip = sym c.index.ensures ∙ c.same_gossip.ensures.0 c.if-same_gossip.true ∙ c.gossip.ensures in (
      λ h. is ∙ ap Some (same-locals own local first (sym c.index-then-same_gossip.ensures ∙ c.equals.ensures.0 h ∙ c.residues.ensures)),
      λ h.
          let both : Some own ≡ Some local = sym is ∙ h in
          let same : own ≡ local = cc in
          c.equals.ensures.1 (c.index-then-same_gossip.ensures ∙ ap (λ (l : LocalState). l.residues) same ∙ sym c.residues.ensures),
    )

pub returns-else-same_gossip : goal.returns-else-same_gossip
returns-else-same_gossip c =
    let g : Rows = c.index.result.now in
    let local : LocalState = c.args.local.now in
    let own : LocalState = record {
      gossip = get_or c.self.inside.gossips.items c.args.i g;
      residues =
          get_or c.self.inside.residues.items c.args.i local.residues;
    } in
    let is : slice_get c.args.self.now.locals c.args.i ≡ Some own = local-there c.self.inside c.self.invariant c.args.self.now c.self.view_is c.args.i g
    local.residues c.requires.place in (
      λ h. absurd (let z : true ≡ false = sym h ∙ c.if-same_gossip.false in cc),
      λ h.
          let both : Some own ≡ Some local = sym is ∙ h in
          let same : own ≡ local = cc in
          c.same_gossip.ensures.1 (c.index.ensures ∙ ap (λ (l : LocalState). l.gossip) same ∙ sym c.gossip.ensures),
    )

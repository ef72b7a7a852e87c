use Rattle.std.proofs.Common.{◌≡◌, ℕ, ◌+◌, [], ◌∷◌, ◌++◌, length, take, slice_set, sym, ap, ◌∙◌, arith}
use Rattle.std.proofs.lemmas.List.{length-set}
use Rattle.std.proofs.lemmas.List.Elements.{All-set}
use Rattle.za_gossip.specs.Rows.{Rows}
use Rattle.za_residue.specs.Functions.{Functions}
use Rattle.za_local.specs.Locals.{LocalState}
use Rattle.za_local.specs.Benches.{LocalStates, paired}
use Rattle.za_local.proofs.Benches.{room-more, paired-next}
use Rattle.za_local.proofs.LocalLaws.{same-locals}
use Rattle.za_local.proofs.Paired.{same-benches}
use Rattle.za_local.proofs.bench.Bench.add.Goals as goal

pub index_mut-requires : goal.index_mut-requires
index_mut-requires c = let l = room-more c.self.inside c.self.invariant c.args.self.now c.self.view_is c.requires.room in let long =
    c.self.invariant.gossips in let v = c.self.inside.gossips.ok.0 in omega arith

pub copy_from-requires : goal.copy_from-requires
copy_from-requires c =
    let size : Rows → ℕ = λ rows. length rows.primary in
    let l = room-more c.self.inside c.self.invariant c.args.self.now c.self.view_is c.requires.room in
    let long = c.self.invariant.gossips in
    ap size c.index_mut.ensures.value ∙ c.self.invariant.rows c.self.inside.len c.index_mut.result.now (omega arith)
    ∙ ap (λ (b : LocalStates). b.processes) c.self.view_is ∙ sym c.requires.shape.gossip ∙ ap size (sym c.gossip.ensures)

pub index_mut-requires-2 : goal.index_mut-requires-2
index_mut-requires-2 c =
    let l = room-more c.self.inside c.self.invariant c.args.self.now c.self.view_is c.requires.room in let long = c.self.invariant.residues in let v =
    c.self.inside.residues.ok.0 in omega arith

pub copy_from-requires-2-clause-processes : goal.copy_from-requires-2-clause-processes
copy_from-requires-2-clause-processes c =
    let size : Functions → ℕ = λ f. f.processes in
    let l = room-more c.self.inside c.self.invariant c.args.self.now c.self.view_is c.requires.room in
    let long = c.self.invariant.residues in
    ap size c.index_mut-2.ensures.value ∙ c.self.invariant.processes c.self.inside.len c.index_mut-2.result.now (omega arith)
    ∙ ap (λ (b : LocalStates). b.processes) c.self.view_is ∙ sym c.requires.shape.processes ∙ ap size (sym c.residues.ensures)

pub copy_from-requires-2-clause-states : goal.copy_from-requires-2-clause-states
copy_from-requires-2-clause-states c =
    let size : Functions → ℕ = λ f. f.states in
    let l = room-more c.self.inside c.self.invariant c.args.self.now c.self.view_is c.requires.room in
    let long = c.self.invariant.residues in
    ap size c.index_mut-2.ensures.value ∙ c.self.invariant.states c.self.inside.len c.index_mut-2.result.now (omega arith)
    ∙ ap (λ (b : LocalStates). b.states) c.self.view_is ∙ sym c.requires.shape.states ∙ ap size (sym c.residues.ensures)

pub invariant_of-self : goal.invariant_of-self
invariant_of-self c =
    let room = c.self.invariant in
    let len : ℕ = c.self.inside.len in
    let n = ap (λ (b : LocalStates). b.processes) c.self.view_is in
    let k = ap (λ (b : LocalStates). b.states) c.self.view_is in
    let g = c.copy_from.ensures ∙ c.gossip.ensures in
    let r = c.copy_from-2.ensures ∙ c.residues.ensures in
    record {
      gossips = length-set c.self.inside.gossips.items len c.copy_from.new.self ∙ room.gossips;
      residues = length-set c.self.inside.residues.items len c.copy_from-2.new.self ∙ room.residues;
      few = let l = room-more c.self.inside c.self.invariant c.args.self.now c.self.view_is c.requires.room in omega arith;
      rows = All-set (λ (rows : Rows). length rows.primary ≡ c.self.inside.processes) c.self.inside.gossips.items len c.copy_from.new.self
          (ap (λ (rows : Rows). length rows.primary) g ∙ c.requires.shape.gossip ∙ sym n) room.rows;
      processes = All-set (λ (f : Functions). f.processes ≡ c.self.inside.processes) c.self.inside.residues.items len c.copy_from-2.new.self
          (ap (λ (f : Functions). f.processes) r ∙ c.requires.shape.processes ∙ sym n) room.processes;
      states = All-set (λ (f : Functions). f.states ≡ c.self.inside.states) c.self.inside.residues.items len c.copy_from-2.new.self
          (ap (λ (f : Functions). f.states) r ∙ c.requires.shape.states ∙ sym k) room.states;
    }

pub returns : goal.returns
returns c =
    let inside = c.self.inside in
    let len : ℕ = inside.len in
    let g : Rows = c.copy_from.new.self in
    let r : Functions = c.copy_from-2.new.self in
    let l = room-more c.self.inside c.self.invariant c.args.self.now c.self.view_is c.requires.room in
    let one : LocalState = record { gossip = g; residues = r } in
    let local : one ≡ c.args.local.now = same-locals one c.args.local.now (c.copy_from.ensures ∙ c.gossip.ensures) (c.copy_from-2.ensures ∙ c.residues.ensures)
    in
    same-benches
    (record {
      processes = inside.processes;
      states = inside.states;
      locals = paired (take (len + 1) (slice_set inside.gossips.items len g))
          (take (len + 1) (slice_set inside.residues.items len r));
    })
    (record { processes = c.args.self.now.processes; states = c.args.self.now.states; locals = c.args.self.now.locals ++ c.args.local.now ∷ [] })
    (ap (λ (b : LocalStates). b.processes) c.self.view_is)
    (ap (λ (b : LocalStates). b.states) c.self.view_is)
    (paired-next inside c.self.invariant g r l
    ∙ ap (λ ls. ls ++ one ∷ []) (ap (λ (b : LocalStates). b.locals) c.self.view_is)
    ∙ ap (λ o. c.args.self.now.locals ++ o ∷ []) local)

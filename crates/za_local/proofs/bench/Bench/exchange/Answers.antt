use Rattle.std.proofs.Common.{◌≡◌, ℕ, ◌+◌, ◌<◌, [], ◌∷◌, ◌++◌, length, take, slice_set, sym, ap, ◌∙◌, arith}
use Rattle.std.proofs.lemmas.List.{length-set}
use Rattle.std.proofs.lemmas.List.Elements.{All-set}
use Rattle.za_gossip.specs.Rows.{Rows}
use Rattle.za_residue.specs.Functions.{Functions}
use Rattle.za_local.specs.Locals.{LocalState}
use Rattle.za_local.specs.Benches.{LocalStates, paired}
use Rattle.za_local.proofs.Benches.{room-more, paired-next}
use Rattle.za_local.proofs.LocalLaws.{same-locals}
use Rattle.za_local.proofs.Paired.{same-benches}
use Rattle.za_local.proofs.bench.Bench.exchange.Goals as goal
use Rattle.za_local.proofs.bench.Bench.exchange.Goals.{After-swap-2}

pub index_mut-requires : goal.index_mut-requires
index_mut-requires c = let l = room-more c.self.inside c.self.invariant c.args.self.now c.self.view_is c.requires.room in let long =
    c.self.invariant.gossips in let v = c.self.inside.gossips.ok.0 in omega arith

pub index_mut-requires-2 : goal.index_mut-requires-2
index_mut-requires-2 c =
    let l = room-more c.self.inside c.self.invariant c.args.self.now c.self.view_is c.requires.room in let long = c.self.invariant.residues in let v =
    c.self.inside.residues.ok.0 in omega arith

-- there is room
place : (c : After-swap-2) → c.self.inside.len < c.self.inside.processes
place c = room-more c.self.inside c.self.invariant c.args.self.now c.self.view_is c.requires.room

-- what comes from the bench
gossip : (c : After-swap-2) → length c.swap.new.y.primary ≡ c.self.inside.processes
gossip c =
    let l = place c in
    let long = c.self.invariant.gossips in
    let size : Rows → ℕ = λ rows. length rows.primary in
    ap size (c.swap.ensures.y_after ∙ c.index_mut.ensures.value) ∙ c.self.invariant.rows c.self.inside.len c.index_mut.result.now (omega arith)

processes : (c : After-swap-2) → c.swap-2.new.y.processes ≡ c.self.inside.processes
processes c =
    let l = place c in
    let long = c.self.invariant.residues in
    ap (λ (f : Functions). f.processes) (c.swap-2.ensures.y_after ∙ c.index_mut-2.ensures.value)
    ∙ c.self.invariant.processes c.self.inside.len c.index_mut-2.result.now (omega arith)

states : (c : After-swap-2) → c.swap-2.new.y.states ≡ c.self.inside.states
states c =
    let l = place c in
    let long = c.self.invariant.residues in
    ap (λ (f : Functions). f.states) (c.swap-2.ensures.y_after ∙ c.index_mut-2.ensures.value)
    ∙ c.self.invariant.states c.self.inside.len c.index_mut-2.result.now (omega arith)

pub invariant_of-self : goal.invariant_of-self
invariant_of-self c =
    let room = c.self.invariant in
    let len : ℕ = c.self.inside.len in
    let n = ap (λ (b : LocalStates). b.processes) c.self.view_is in
    let k = ap (λ (b : LocalStates). b.states) c.self.view_is in
    let g = c.swap.ensures.x_after ∙ ap (λ (l : LocalState). l.gossip) c.local.view_is in
    let r = c.swap-2.ensures.x_after ∙ ap (λ (l : LocalState). l.residues) c.local.view_is in
    record {
      gossips = length-set c.self.inside.gossips.items len c.swap.new.x ∙ room.gossips;
      residues = length-set c.self.inside.residues.items len c.swap-2.new.x ∙ room.residues;
      few = let l = place (goal.at.invariant_of-self c).After-swap-2 in omega arith;
      rows = All-set (λ (rows : Rows). length rows.primary ≡ c.self.inside.processes) c.self.inside.gossips.items len c.swap.new.x
          (ap (λ (rows : Rows). length rows.primary) g ∙ c.requires.shape.gossip ∙ sym n) room.rows;
      processes = All-set (λ (f : Functions). f.processes ≡ c.self.inside.processes) c.self.inside.residues.items len c.swap-2.new.x
          (ap (λ (f : Functions). f.processes) r ∙ c.requires.shape.processes ∙ sym n) room.processes;
      states = All-set (λ (f : Functions). f.states ≡ c.self.inside.states) c.self.inside.residues.items len c.swap-2.new.x
          (ap (λ (f : Functions). f.states) r ∙ c.requires.shape.states ∙ sym k) room.states;
    }

pub invariant_of-local : goal.invariant_of-local
invariant_of-local c = let b = (goal.at.invariant_of-local c).After-swap-2 in gossip b ∙ sym (processes b)

pub returns-clause-bench : goal.returns-clause-bench
returns-clause-bench c =
    let inside = c.self.inside in
    let len : ℕ = inside.len in
    let g : Rows = c.swap.new.x in
    let r : Functions = c.swap-2.new.x in
    let one : LocalState = record { gossip = g; residues = r } in
    let local : one ≡ c.args.local.now =
    same-locals one c.args.local.now (c.swap.ensures.x_after ∙ ap (λ (l : LocalState). l.gossip) c.local.view_is) (c.swap-2.ensures.x_after
    ∙ ap (λ (l : LocalState). l.residues) c.local.view_is) in
    same-benches
    (record {
      processes = inside.processes;
      states = inside.states;
      locals = paired (take (len + 1) (slice_set inside.gossips.items len g))
          (take (len + 1) (slice_set inside.residues.items len r));
    })
    (record { processes = c.args.self.now.processes; states = c.args.self.now.states; locals = c.args.self.now.locals ++ c.args.local.now ∷ [] })
    (ap (λ (b : LocalStates). b.processes) c.self.view_is)
    (ap (λ (b : LocalStates). b.states) c.self.view_is)
    (paired-next inside c.self.invariant g r (place (goal.at.returns-clause-bench c).After-swap-2)
    ∙ ap (λ ls. ls ++ one ∷ []) (ap (λ (b : LocalStates). b.locals) c.self.view_is)
    ∙ ap (λ o. c.args.self.now.locals ++ o ∷ []) local)

pub returns-clause-shape : goal.returns-clause-shape
returns-clause-shape c =
    let b = (goal.at.returns-clause-shape c).After-swap-2 in
    let n = ap (λ (b : LocalStates). b.processes) c.self.view_is in
    let k = ap (λ (b : LocalStates). b.states) c.self.view_is in
    record { gossip = gossip b ∙ n; processes = processes b ∙ n; states = states b ∙ k }

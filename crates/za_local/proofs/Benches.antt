-- The local states of a bench.
use Rattle.std.proofs.Common.{◌≡◌, ℕ, ◌+◌, ◌<◌, List, [], ◌∷◌, ◌++◌, Some, length, get_or, take, slice_get, slice_set, sym, ap, ◌∙◌, arith, add-one}
use Rattle.std.proofs.Math.Seq.{take-suc-set}
use Rattle.std.proofs.lemmas.List.{length-take-le, get_or-take}
use Rattle.za_gossip.specs.Rows.{Rows}
use Rattle.za_residue.specs.Functions.{Functions}
use Rattle.za_local.specs.declared.bench.Bench.TheInside.{Inside}
use Rattle.za_local.specs.Benches.{LocalStates, paired, gossips_of, residues_of}
use Rattle.za_local.specs.Inside.{bench_in, HasRoomInside}
use Rattle.za_local.proofs.Paired.{gossips-paired, residues-paired, length-paired, paired-more, paired-get}

module _ (inside : Inside) (room : HasRoomInside inside) where
  abbrev gossips : List Rows
  gossips = take inside.len inside.gossips.items

  abbrev residues : List Functions
  residues = take inside.len inside.residues.items

  pub length-gossips : length gossips ≡ inside.len
  length-gossips = let e = room.gossips in let l = room.few in length-take-le inside.len inside.gossips.items (omega arith)

  pub length-residues : length residues ≡ inside.len
  length-residues = let e = room.residues in let l = room.few in length-take-le inside.len inside.residues.items (omega arith)

  -- one of each more
  pub paired-next : (g : Rows) (r : Functions) → inside.len < inside.processes →
      paired (take (inside.len + 1) (slice_set inside.gossips.items inside.len g)) (take (inside.len + 1) (slice_set inside.residues.items inside.len r))
      ≡ paired gossips residues ++ record { gossip = g; residues = r } ∷ []
  paired-next g r l =
      let len : ℕ = inside.len in
      let long-g = room.gossips in
      let long-r = room.residues in
      let first : take (len + 1) (slice_set inside.gossips.items len g) ≡ gossips ++ g ∷ [] =
      ap (λ k. take k (slice_set inside.gossips.items len g)) (add-one len) ∙ take-suc-set inside.gossips.items len g (omega arith) in
      let second : take (len + 1) (slice_set inside.residues.items len r) ≡ residues ++ r ∷ [] =
      ap (λ k. take k (slice_set inside.residues.items len r)) (add-one len) ∙ take-suc-set inside.residues.items len r (omega arith) in
      ap (λ gs. paired gs (take (len + 1) (slice_set inside.residues.items len r))) first ∙ ap (paired (gossips ++ g ∷ [])) second
      ∙ paired-more gossips residues g r (length-gossips ∙ sym length-residues)

  -- the local state at a place
  pub local-of : (i : ℕ) (g : Rows) (r : Functions) → i < inside.len → slice_get (paired gossips residues) i
      ≡ Some (record { gossip = get_or inside.gossips.items i g; residues = get_or inside.residues.items i r })
  local-of i g r l =
      let lg = length-gossips in
      let lr = length-residues in
      paired-get gossips residues i g r (lg ∙ sym lr) (omega arith)
      ∙ ap (λ v. Some (record { gossip = v; residues = get_or residues i r })) (get_or-take inside.len inside.gossips.items i g l)
      ∙ ap (λ v. Some (record { gossip = get_or inside.gossips.items i g; residues = v })) (get_or-take inside.len inside.residues.items i r l)

  module _ (bench : LocalStates) (view_is : bench_in inside ≡ bench) where
    pub gossips-are : gossips ≡ gossips_of bench.locals
    gossips-are = sym (gossips-paired gossips residues (length-gossips ∙ sym length-residues)) ∙ ap (λ (b : LocalStates). gossips_of b.locals) view_is

    pub residues-are : residues ≡ residues_of bench.locals
    residues-are = sym (residues-paired gossips residues (length-gossips ∙ sym length-residues)) ∙ ap (λ (b : LocalStates). residues_of b.locals) view_is

    pub length-is : inside.len ≡ length bench.locals
    length-is = sym (length-paired gossips residues (length-gossips ∙ sym length-residues) ∙ length-gossips) ∙ ap (λ (b : LocalStates). length b.locals) view_is

    -- there is room where there are fewer than processes
    pub room-more : length bench.locals < bench.processes → inside.len < inside.processes
    room-more l = let e = length-is in let n = ap (λ (b : LocalStates). b.processes) view_is in omega arith

    -- a place that has a local state is one of the rows and one of the residues
    pub place-of : (i : ℕ) → i < length bench.locals → (i < inside.len) × (i < length inside.gossips.items) × (i < length inside.residues.items)
    place-of i l =
        let e = length-is in
        let few = room.few in
        let g = room.gossips in
        let r = room.residues in
        (omega arith, omega arith, omega arith)

    pub local-there : (i : ℕ) (g : Rows) (r : Functions) → i < length bench.locals →
        slice_get bench.locals i ≡ Some (record { gossip = get_or inside.gossips.items i g; residues = get_or inside.residues.items i r })
    local-there i g r l = sym (ap (λ (b : LocalStates). slice_get b.locals i) view_is) ∙ local-of i g r (place-of i l).0

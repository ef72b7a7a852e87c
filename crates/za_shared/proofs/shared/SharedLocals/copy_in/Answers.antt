use Rattle.std.proofs.Common.{◌≡◌, ℕ, ◌-◌, refl, sym, ap, subst, ◌∙◌, arith, length, slice_set, get_or, length-set, get_or-set_same}
use Rattle.std.proofs.lemmas.List.Elements.{All-set}
use Rattle.za_local.specs.Locals.{HasShape}
use Rattle.za_shared.specs.Holders.{no_local}
use Rattle.za_shared.specs.Records.{Records}
use Rattle.za_shared.specs.Private.Inside.{records_in}
use Rattle.za_shared.proofs.Carrying.{carried, some-spare}
use Rattle.za_shared.proofs.shared.SharedLocals.copy_in.Goals as goal

pub overflow_sub-last : goal.overflow_sub-last
overflow_sub-last c = let s = some-spare (records_in c.self.inside) c.self.invariant.records c.live-live.ensures.counted
    (ap (λ (x : Records). x.own) c.self.view_is ∙ c.requires.free) in let e = c.len-last.ensures in let v = c.self.inside.spares.ok.0 in omega arith

pub index_mut-requires : goal.index_mut-requires
index_mut-requires c =
    let s = some-spare (records_in c.self.inside) c.self.invariant.records c.live-live.ensures.counted
    (ap (λ (x : Records). x.own) c.self.view_is ∙ c.requires.free) in let e = c.len-last.ensures in let v = c.self.inside.spares.ok.0 in omega arith

pub copy_from-requires : goal.copy_from-requires
copy_from-requires c =
    let i = c.self.inside in
    let n = i.closed.alphabet.processes in
    let m = i.closed.states in
    let s = some-spare (records_in c.self.inside) c.self.invariant.records c.live-live.ensures.counted
    (ap (λ (x : Records). x.own) c.self.view_is ∙ c.requires.free) in
    let e = c.len-last.ensures in
    let v = i.spares.ok.0 in
    let old : HasShape n m c.index_mut.result.now =
    subst (HasShape n m) (sym c.index_mut.ensures.value)
    (c.self.invariant.records.spares_shaped (c.len-last.result - 1) c.index_mut.result.now (omega arith)) in
    subst (λ (p : ℕ). HasShape p c.index_mut.result.now.residues.states c.args.made.now) (sym old.gossip)
    (subst (λ (q : ℕ). HasShape n q c.args.made.now) (sym old.states)
    (subst (λ (x : Records). HasShape x.dfa.alphabet.processes x.dfa.states c.args.made.now) (sym c.self.view_is) c.requires.shape))

pub invariant_of-self : goal.invariant_of-self
invariant_of-self c =
    let r = records_in c.self.inside in
    let ok = c.self.invariant.records in
    let last : ℕ = c.len-last.result - 1 in
    let made = c.copy_from.new.self in
    record {
      records = carried r r.shelf r.own r.keys r.lines (slice_set r.spares last made) ok ok.counts (λ k h. h) (λ k h. refl) r.cache refl ok.keys_size ok.own_few
          (All-set (HasShape r.dfa.alphabet.processes r.dfa.states) r.spares last made
          (subst (HasShape r.dfa.alphabet.processes r.dfa.states) (sym c.copy_from.ensures)
          (subst (λ (x : Records). HasShape x.dfa.alphabet.processes x.dfa.states c.args.made.now) (sym c.self.view_is) c.requires.shape))
          ok.spares_shaped)
          (let e = length-set r.spares last made in omega arith) refl ok.lines_few ok.lines;
      room = c.self.invariant.room;
      processes = c.self.invariant.processes;
      states = c.self.invariant.states;
      marks = c.self.invariant.marks;
    }

pub returns-clause-some : goal.returns-clause-some
returns-clause-some c =
    let s = some-spare (records_in c.self.inside) c.self.invariant.records c.live-live.ensures.counted
    (ap (λ (x : Records). x.own) c.self.view_is ∙ c.requires.free) in
    let e = length-set c.self.inside.spares.items (c.len-last.result - 1) c.copy_from.new.self in omega arith

pub returns-clause-copied : goal.returns-clause-copied
returns-clause-copied c =
    let s = some-spare (records_in c.self.inside) c.self.invariant.records c.live-live.ensures.counted
    (ap (λ (x : Records). x.own) c.self.view_is ∙ c.requires.free) in
    let xs = c.self.inside.spares.items in
    let last : ℕ = c.len-last.result - 1 in
    let made = c.copy_from.new.self in
    let e = c.len-last.ensures in
    let v = c.self.inside.spares.ok.0 in
    let size = length-set xs last made in
    ap (λ n. get_or (slice_set xs last made) n no_local) (let q : length (slice_set xs last made) - 1 ≡ last = omega arith in q)
    ∙ get_or-set_same xs last made no_local (omega arith) ∙ c.copy_from.ensures

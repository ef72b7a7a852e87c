use Rattle.std.proofs.Common.{◌≡◌, ℕ, ◌-◌, List, refl, sym, ap, subst, ◌∙◌, arith, length, slice_set, get_or, length-set, get_or-set_same}
use Rattle.std.proofs.lemmas.List.Elements.{All-set}
use Rattle.za_alpha.specs.Procs.{members}
use Rattle.za_alpha.specs.Alphabet.{loc_of}
use Rattle.za_local.specs.Locals.{LocalState, AreLocalsAfter, AreAllLocalsAfter, HasShape}
use Rattle.za_local.specs.Benches.{LocalStates}
use Rattle.za_shared.specs.Holders.{no_local, values_at}
use Rattle.za_shared.specs.Records.{Records, AreRecords, locals_of}
use Rattle.za_shared.specs.Private.Steps.{last_of}
use Rattle.za_shared.specs.Private.Inside.{records_in}
use Rattle.za_shared.proofs.Carrying.{carried, some-spare}
use Rattle.za_shared.proofs.Locals.{participants-after}
use Rattle.za_shared.proofs.shared.SharedLocals.compute.Goals as goal

pub overflow_sub-last : goal.overflow_sub-last
overflow_sub-last c =
    let some = some-spare (records_in c.self.inside) c.self.invariant.records c.live-live.ensures.counted
    (ap (λ (x : Records). x.own) c.self.view_is ∙ c.requires.free) in
    let e = c.len-last.ensures in let v = c.self.inside.spares.ok.0 in omega arith

pub index_mut-requires : goal.index_mut-requires
index_mut-requires c =
    let some = some-spare (records_in c.self.inside) c.self.invariant.records c.live-live.ensures.counted
    (ap (λ (x : Records). x.own) c.self.view_is ∙ c.requires.free) in
    let e = c.len-last.ensures in let v = c.self.inside.spares.ok.0 in omega arith

pub transit-requires-clause-locals : goal.transit-requires-clause-locals
transit-requires-clause-locals c =
    let r = records_in c.self.inside in
    let given = c.requires.locals in
    let w = given.0 in
    let h : AreAllLocalsAfter r.dfa w (locals_of r) = subst (λ (x : Records). AreAllLocalsAfter x.dfa w (locals_of x)) (sym c.self.view_is) given.1 in
    let same : members c.args.participants ≡ loc_of r.dfa.alphabet c.args.a.0 = c.requires.participants
    ∙ ap (λ (x : Records). loc_of x.dfa.alphabet c.args.a.0) (sym c.self.view_is) in (
      w,
      subst (AreLocalsAfter r.dfa w (loc_of r.dfa.alphabet c.args.a.0))
          (sym (ap (λ (b : LocalStates). b.locals) c.gather.ensures
          ∙ ap (λ (ks : List ℕ). values_at r.shelf ks (members c.args.participants)) c.deref.ensures.value))
          (participants-after r w c.args.a.0 (members c.args.participants) same c.self.invariant.records
          (ap (λ (x : Records). length x.dfa.alphabet.letters) c.self.view_is) c.requires.letter h),
    )

pub transit-requires-clause-shape : goal.transit-requires-clause-shape
transit-requires-clause-shape c =
    let r = records_in c.self.inside in
    let some = some-spare r c.self.invariant.records c.live-live.ensures.counted (ap (λ (x : Records). x.own) c.self.view_is ∙ c.requires.free) in
    let e = c.len-last.ensures in
    let v = c.self.inside.spares.ok.0 in
    subst (HasShape r.dfa.alphabet.processes r.dfa.states) (sym c.index_mut.ensures.value)
    (c.self.invariant.records.spares_shaped (c.len-last.result - 1) c.index_mut.result.now (omega arith))

pub invariant_of-self : goal.invariant_of-self
invariant_of-self c =
    let r = records_in c.self.inside in
    let ok = c.self.invariant.records in
    let last : ℕ = c.len-last.result - 1 in
    let spares : List LocalState = slice_set r.spares last c.transit.new.into in
    record {
      records = carried r r.shelf r.own r.keys r.lines spares ok ok.counts (λ k h. h) (λ k h. refl) r.cache refl ok.keys_size ok.own_few
          (All-set (HasShape r.dfa.alphabet.processes r.dfa.states) r.spares last c.transit.new.into c.transit.ensures.shape ok.spares_shaped)
          (let e = length-set r.spares last c.transit.new.into in omega arith) refl ok.lines_few ok.lines;
      room = c.self.invariant.room;
      processes = ap (λ (b : LocalStates). b.processes) c.gather.ensures ∙ c.self.invariant.processes;
      states = ap (λ (b : LocalStates). b.states) c.gather.ensures ∙ c.self.invariant.states;
      marks = c.self.invariant.marks;
    }

pub returns-clause-some : goal.returns-clause-some
returns-clause-some c =
    let some = some-spare (records_in c.self.inside) c.self.invariant.records c.live-live.ensures.counted
    (ap (λ (x : Records). x.own) c.self.view_is ∙ c.requires.free) in
    let e = length-set c.self.inside.spares.items (c.len-last.result - 1) c.transit.new.into in omega arith

pub returns-clause-transition : goal.returns-clause-transition
returns-clause-transition c =
    let i = c.self.inside in
    let r = records_in i in
    let last : ℕ = c.len-last.result - 1 in
    let some = some-spare r c.self.invariant.records c.live-live.ensures.counted (ap (λ (x : Records). x.own) c.self.view_is ∙ c.requires.free) in
    let e = c.len-last.ensures in
    let v = i.spares.ok.0 in
    let size = length-set i.spares.items last c.transit.new.into in
    let at : last_of (slice_set i.spares.items last c.transit.new.into) ≡ c.transit.new.into =
    ap (λ n. get_or (slice_set i.spares.items last c.transit.new.into) n no_local)
    (let q : length (slice_set i.spares.items last c.transit.new.into) - 1 ≡ last = omega arith in q)
    ∙ get_or-set_same i.spares.items last c.transit.new.into no_local (omega arith) in
    let bench : c.gather.new.bench.locals ≡ values_at r.shelf r.keys (members c.args.participants) = ap (λ (b : LocalStates). b.locals) c.gather.ensures
    ∙ ap (λ (ks : List ℕ). values_at r.shelf ks (members c.args.participants)) c.deref.ensures.value in
    let all : Rattle.za_shared.specs.Records.IsTransition r.dfa c.args.a.0 (values_at r.shelf r.keys (members c.args.participants))
    (last_of (slice_set i.spares.items last c.transit.new.into)) =
    λ w h x p. at ∙ c.transit.ensures.local w (subst (AreLocalsAfter r.dfa w (loc_of r.dfa.alphabet c.args.a.0)) (sym bench) h) x p in
    subst (λ (y : Records). Rattle.za_shared.specs.Records.IsTransition y.dfa c.args.a.0 (values_at y.shelf y.keys (members c.args.participants))
    (last_of (slice_set i.spares.items last c.transit.new.into))) c.self.view_is all

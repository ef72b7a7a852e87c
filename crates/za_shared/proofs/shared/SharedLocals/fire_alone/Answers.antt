use Rattle.std.proofs.Common.{◌≡◌, ℕ, ◌<◌, ◌≤◌, [], ◌∷◌, List, false, true, refl, sym, ap, subst, ◌∙◌, arith, length, slice_index}
use Rattle.std.proofs.lemmas.List.{length-map}
use Rattle.za_alpha.specs.Words.{has}
use Rattle.za_alpha.specs.Procs.{members}
use Rattle.za_alpha.specs.Alphabet.{loc_of}
use Rattle.za_local.specs.Locals.{LocalState, AreLocalsAfter, AreAllLocalsAfter, HasShape}
use Rattle.za_local.specs.Benches.{LocalStates}
use Rattle.za_local.proofs.Inputs.{few-participants}
use Rattle.za_shared.specs.Marks.{AreMarked}
use Rattle.za_shared.specs.Holders.{value, values_at}
use Rattle.za_shared.specs.Records.{Records, AreRecords, HasFired, locals_of}
use Rattle.za_shared.specs.Private.Inside.{records_in}
use Rattle.za_shared.specs.Private.Steps.{held_by, HaveFewer, HaveTurned, IsUsable}
use Rattle.za_shared.proofs.Alone.{alone-records, alone-fired}
use Rattle.za_shared.proofs.Carrying.{some-spare, few-holders}
use Rattle.za_shared.proofs.LineLists.{all-last}
use Rattle.za_shared.proofs.Locals.{participants-after}
use Rattle.za_shared.proofs.Vectors.{written}
use Rattle.za_shared.proofs.shared.SharedLocals.fire_alone.Goals as goal
use Rattle.za_shared.proofs.shared.SharedLocals.fire_alone.Goals.{After-vacate, After-len, After-turn}

pub unreachable-requires : goal.unreachable-requires
unreachable-requires c =
    let some = some-spare (records_in c.self.inside) c.self.invariant.records c.live-live.ensures.counted
    (ap (λ (x : Records). x.own) c.self.view_is ∙ c.requires.free) in
    let v = c.self.inside.spares.ok in
    let z : false ≡ true = c.in_default.ensures.variant.1 (omega arith) in cc

pub vacate-requires-clause-shaped : goal.vacate-requires-clause-shaped
vacate-requires-clause-shaped c = λ k h.
    let i = c.self.inside in
    let inv = c.self.invariant in
    subst (λ (n : ℕ). HasShape n i.bench.states (value i.shelf k)) (sym inv.processes)
    (subst (λ (m : ℕ). HasShape i.closed.alphabet.processes m (value i.shelf k)) (sym inv.states) (inv.records.shaped k h))

-- what the records were
module _ (c : After-vacate) where
  abbrev r : Records
  r = records_in c.self.inside

  letter : c.args.a.0 < length r.dfa.alphabet.letters
  letter = subst (λ (x : Records). c.args.a.0 < length x.dfa.alphabet.letters) (sym c.self.view_is) c.requires.letter

  participants : members c.args.participants ≡ loc_of r.dfa.alphabet c.args.a.0
  participants = c.requires.participants ∙ ap (λ (x : Records). loc_of x.dfa.alphabet c.args.a.0) (sym c.self.view_is)

  -- what stands on the bench
  on : c.vacate.new.bench.locals ≡ values_at r.shelf r.keys (members c.args.participants)
  on = ap (λ (b : LocalStates). b.locals) c.vacate.ensures.bench ∙ ap (λ (ks : List ℕ). values_at r.shelf ks (members c.args.participants))
      c.deref.ensures.value

pub make-requires-clause-locals : goal.make-requires-clause-locals
make-requires-clause-locals c =
    let k = (goal.at.make-requires-clause-locals c).After-vacate in
    let given = c.requires.locals in
    let h : AreAllLocalsAfter (r k).dfa given.0 (locals_of (r k)) = subst (λ (x : Records). AreAllLocalsAfter x.dfa given.0 (locals_of x))
    (sym c.self.view_is) given.1 in (
      given.0,
      subst (AreLocalsAfter (r k).dfa given.0 (loc_of (r k).dfa.alphabet c.args.a.0)) (sym (on k))
          (participants-after (r k) given.0 c.args.a.0 (members c.args.participants) (participants k) c.self.invariant.records refl (letter k) h),
    )

pub make-requires-clause-shape : goal.make-requires-clause-shape
make-requires-clause-shape c =
    let d = c.self.inside.closed in
    all-last (HasShape d.alphabet.processes d.states) c.pop.new.self.items c.in-Some.local
    (subst (Rattle.std.specs.List.All (HasShape d.alphabet.processes d.states)) c.in-Some.ensures.items c.self.invariant.records.spares_shaped)

-- how many participants there are
count : (c : After-len) → c.len.result ≡ length (members c.args.participants)
count c =
    let k = (goal.at.After-len c).After-vacate in
    c.len.ensures ∙ ap length (on k) ∙ length-map (members c.args.participants) (λ p. value (r k).shelf (slice_index (r k).keys p))

few : (c : After-len) → c.len.result ≤ (r (goal.at.After-len c).After-vacate).dfa.alphabet.processes
few c =
    let k = (goal.at.After-len c).After-vacate in
    let e = count c in
    let f = ap length (participants k) in
    let g = few-participants (r k).dfa.alphabet c.self.invariant.records.complete.distributed c.args.a.0 (letter k) in omega arith

pub overflow_cast-len : goal.overflow_cast-len
overflow_cast-len c =
    let f = few c in
    let n = c.self.invariant.records.complete.distributed.few_processes in omega arith

some-length : (xs : List ℕ) (x : ℕ) → has xs x ≡ true → 0 < length xs
some-length [] x h = cc
some-length (y ∷ ys) x h = omega arith

pub shelve-key-requires-clause-some : goal.shelve-key-requires-clause-some
shelve-key-requires-clause-some c =
    let j = (goal.at.shelve-key-requires-clause-some c).After-len in
    let k = (goal.at.After-len j).After-vacate in
    let x = c.self.invariant.records.complete.distributed.located.some c.args.a.0 (letter k) in
    let n = some-length (loc_of (r k).dfa.alphabet c.args.a.0) x.0 x.1 in
    let e = count j in
    let f = ap length (participants k) in omega arith

pub shelve-key-requires-clause-few : goal.shelve-key-requires-clause-few
shelve-key-requires-clause-few c = λ k.
    let j = (goal.at.shelve-key-requires-clause-few c).After-len in
    let f = few j in
    let n = c.self.invariant.records.complete.distributed.few_processes in
    let a = c.vacate.ensures.fewer.counts k in
    let b = few-holders (records_in c.self.inside) c.self.invariant.records k in
    let m = c.self.invariant.records.cache_few in omega arith

-- all that has changed
module _ (c : After-turn) where
  abbrev k : After-vacate
  k = (goal.at.After-turn c).After-vacate

  abbrev j : After-len
  j = (goal.at.After-turn c).After-len

  free : (r k).own ≡ []
  free = ap (λ (x : Records). x.own) c.self.view_is ∙ c.requires.free

  within : (p : ℕ) → has (members c.args.participants) p ≡ true → p < length (r k).keys
  within p h =
      let l = c.self.invariant.records.complete.distributed.located.below c.args.a.0 p (letter k)
      (subst (λ (ps : List ℕ). has ps p ≡ true) (participants k) h) in
      let e = c.self.invariant.records.keys_size in omega arith

  fewer : HaveFewer (r k).shelf c.vacate.new.shelf c.pop.new.self.items c.vacate.new.spares.items (held_by (r k).keys (members c.args.participants))
  fewer = subst (λ (ks : List ℕ). HaveFewer (r k).shelf c.vacate.new.shelf c.pop.new.self.items c.vacate.new.spares.items
      (held_by ks (members c.args.participants)))
      c.deref.ensures.value c.vacate.ensures.fewer

  turned : HaveTurned (r k).keys c.turn.new.keys (members c.args.participants) c.shelve-key.result
  turned = subst (λ (ks : List ℕ). HaveTurned ks c.turn.new.keys (members c.args.participants) c.shelve-key.result) c.deref_mut-2.ensures.value c.turn.ensures

  keys : (Rattle.std.specs.Vec.with_items c.self.inside.keys c.turn.new.keys).items ≡ c.turn.new.keys
  keys = written c.self.inside.keys c.turn.new.keys turned.size

  usable : IsUsable (r k).dfa c.args.a.0 (values_at (r k).shelf (r k).keys (members c.args.participants)) c.make.new.into
  usable = subst (λ (ls : List LocalState). IsUsable (r k).dfa c.args.a.0 ls c.make.new.into) (on k) c.make.ensures

  abbrev after : List ℕ → Records
  after ks = record (r k) { shelf = c.shelve-key.new.shelf; keys = ks; spares = c.shelve-key.new.spares.items }

  records : AreRecords (after (Rattle.std.specs.Vec.with_items c.self.inside.keys c.turn.new.keys).items)
  records = subst (λ (ks : List ℕ). AreRecords (after ks)) (sym keys)
      (alone-records (r k) c.self.invariant.records free c.vacate.new.shelf c.shelve-key.new.shelf c.pop.new.self.items c.vacate.new.spares.items
      c.shelve-key.new.spares.items c.in-Some.local c.make.new.into c.args.participants c.turn.new.keys c.shelve-key.result c.len.result
      c.in-Some.ensures.items within fewer c.shelve-key.ensures.shelved turned (count j) usable.shape)

  fired : HasFired (r k) (after (Rattle.std.specs.Vec.with_items c.self.inside.keys c.turn.new.keys).items) c.args.a.0
  fired = subst (λ (ks : List ℕ). HasFired (r k) (after ks) c.args.a.0) (sym keys)
      (alone-fired (r k) c.self.invariant.records free c.vacate.new.shelf c.shelve-key.new.shelf c.pop.new.self.items c.vacate.new.spares.items
      c.shelve-key.new.spares.items c.in-Some.local c.make.new.into c.args.participants c.turn.new.keys c.shelve-key.result c.len.result
      c.in-Some.ensures.items within fewer c.shelve-key.ensures.shelved turned (count j) usable.shape c.args.a.0 (letter k) (participants k)
      (ap (λ (x : Records). x.cache) c.self.view_is ∙ c.requires.none) usable.transition)

pub invariant_of-self : goal.invariant_of-self
invariant_of-self c =
    let t = (goal.at.invariant_of-self c).After-turn in
    let inv = c.self.invariant in
    let marks = c.deref_mut.ensures.value in
    let size = c.shelve-key.ensures.size ∙ ap length marks in
    record {
      records = records t;
      room = let a = inv.room in let b = c.pop.ensures.capacity in let d = c.vacate.ensures.capacity in let e = c.shelve-key.ensures.capacity in omega arith;
      processes = ap (λ (b : LocalStates). b.processes) c.vacate.ensures.bench ∙ inv.processes;
      states = ap (λ (b : LocalStates). b.states) c.vacate.ensures.bench ∙ inv.states;
      marks = subst (AreMarked c.shelve-key.new.shelf) (sym (written c.self.inside.marks c.shelve-key.new.marks size)) c.shelve-key.ensures.marks;
    }

pub returns-clause-fired : goal.returns-clause-fired
returns-clause-fired c =
    let t = (goal.at.returns-clause-fired c).After-turn in
    subst (λ (x : Records). HasFired x (after t (Rattle.std.specs.Vec.with_items c.self.inside.keys c.turn.new.keys).items) c.args.a.0) c.self.view_is (fired t)

pub returns-clause-records : goal.returns-clause-records
returns-clause-records c = records (goal.at.returns-clause-records c).After-turn

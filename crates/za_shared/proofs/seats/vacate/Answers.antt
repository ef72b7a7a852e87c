use Rattle.std.proofs.Common.{◌≡◌, ℕ, ◌+◌, ◌≤◌, ◌<◌, ◌==◌, [], ◌∷◌, ◌++◌, List, map, length, slice_index, sym, ap, subst, ◌∙◌, arith, refl, true, Vec, Global}
use Rattle.std.proofs.Common.{vec_capacity}
use Rattle.std.specs.Prelude.{count_by}
use Rattle.std.proofs.lemmas.List.{length-map}
use Rattle.za_alpha.specs.declared.procs.Procs.{Procs}
use Rattle.za_alpha.specs.Words.{has}
use Rattle.za_alpha.specs.Procs.{members, members_below}
use Rattle.za_alpha.proofs.Members.{members_below-zero}
use Rattle.za_order.proofs.Rising.{map-members-in, map-members-out, members-fit, length-members_below-le}
use Rattle.za_local.specs.Locals.{LocalState, HasShape}
use Rattle.za_local.specs.Benches.{LocalStates}
use Rattle.za_records.specs.Shelf.{Shelf, count}
use Rattle.za_shared.specs.Holders.{value, values_at}
use Rattle.za_shared.specs.Private.Steps.{one, held_by, HaveFewer}
use Rattle.za_shared.proofs.Shelves.{one-self}
use Rattle.za_shared.proofs.Named.{fewer-then, fewer-same, fewer-none}
use Rattle.za_shared.proofs.Holding.{held-none, held-in, held-out, held-le}
use Rattle.za_shared.proofs.seats.vacate.Goals as goal
use Rattle.za_shared.proofs.seats.vacate.Goals.{Then-has, then-has, else-has}

abbrev with : LocalStates → List LocalState → LocalStates
with b ls = record b { locals = ls }

pub loop-p-init : goal.loop-p-init
loop-p-init c =
    let f : ℕ → LocalState = λ p. value c.args.shelf.now (slice_index c.args.keys.now p) in
    record {
      fewer = fewer-none c.args.shelf.now c.args.spares.now.items (held_by c.args.keys.now (members_below c.args.processes 0))
          (held-none c.args.keys.now c.args.processes);
      capacity = refl;
      bench =
          c.clear.ensures ∙ ap (with c.args.bench.now) (sym (ap (map f) (members_below-zero c.args.processes)))
          ∙ ap (λ (b : LocalStates). with b (map f (members_below c.args.processes 0))) (sym c.clear.ensures);
    }

-- the key of the process that is looked at is still held
still-live : (keys : List ℕ) (s : Procs) (p : ℕ) {r t : Shelf LocalState} {x y : List LocalState} → p < 16 → p < length keys → has (members s) p ≡ true →
    HaveFewer r t x y (held_by keys (members_below s p)) → ((k : ℕ) → count_by (λ x. x == k) keys ≤ count r k) → 0 < count t (slice_index keys p)
still-live keys s p l m here fewer held =
    let k = slice_index keys p in
    let a = fewer.counts k in
    let b = held k in
    let d = held-le keys s k (p + 1) (omega arith) (omega arith) in
    let e = held-in keys s k p l here in
    let o = one-self k in omega arith

live : (c : Then-has) → 0 < count c.loop-p.shelf (slice_index c.args.keys.now c.loop-p.p)
live c =
    let t = c.loop-p-test.true in
    let few = c.requires.few in
    still-live c.args.keys.now c.args.processes c.loop-p.p (omega arith) (omega arith) (sym c.has.ensures ∙ c.if-has.true) c.loop-p.invariant.fewer
    c.requires.held

pub let_go_onto-requires-clause-live : goal.let_go_onto-requires-clause-live
let_go_onto-requires-clause-live c = live (goal.at.let_go_onto-requires-clause-live c).Then-has

pub let_go_onto-requires-clause-place : goal.let_go_onto-requires-clause-place
let_go_onto-requires-clause-place c =
    let f : ℕ → LocalState = λ p. value c.args.shelf.now (slice_index c.args.keys.now p) in
    let t = c.loop-p-test.true in
    let few = c.requires.few in
    let each = c.requires.each in
    let len = ap (λ (b : LocalStates). length b.locals) c.loop-p.invariant.bench ∙ length-map (members_below c.args.processes c.loop-p.p) f in
    let le : length (members_below c.args.processes c.loop-p.p) ≤ c.loop-p.p = length-members_below-le c.args.processes c.loop-p.p (omega arith) in
    let n = ap (λ (b : LocalStates). b.processes) c.loop-p.invariant.bench ∙ ap (λ (b : LocalStates). b.processes) c.clear.ensures in
    omega arith

pub let_go_onto-requires-clause-shape : goal.let_go_onto-requires-clause-shape
let_go_onto-requires-clause-shape c =
    let k = slice_index c.args.keys.now c.loop-p.p in
    let some = live (goal.at.let_go_onto-requires-clause-shape c).Then-has in
    let same = c.loop-p.invariant.bench ∙ ap
    (λ (b : LocalStates). with b (values_at c.args.shelf.now c.args.keys.now (members_below c.args.processes c.loop-p.p))) c.clear.ensures in
    subst (λ (b : LocalStates). HasShape b.processes b.states (value c.loop-p.shelf k)) (sym same)
    (subst (HasShape c.args.bench.now.processes c.args.bench.now.states) (sym (c.loop-p.invariant.fewer.values k some))
    (c.requires.shaped k (let a = c.loop-p.invariant.fewer.counts k in omega arith)))

pub loop-p-preserved : goal.loop-p-preserved
loop-p-preserved c =
    let f : ℕ → LocalState = λ p. value c.args.shelf.now (slice_index c.args.keys.now p) in
    let keys = c.args.keys.now in
    let s = c.args.processes in
    let p : ℕ = c.loop-p.p in
    let t = c.loop-p-test.true in
    let few = c.requires.few in
    let b = c.clear.new.self in
    let before = c.args.spares.now.items in
    elim c.if-has.branch [
      | then-has w ↦
          let here = sym c.has.ensures ∙ w.if-has.true in
          record {
            fewer =
                subst (λ (x : Shelf LocalState). HaveFewer c.args.shelf.now x before c.if-has.spares.items (held_by keys (members_below s (p + 1))))
                (sym w.shelf-is)
                (subst (λ (v : Vec LocalState Global). HaveFewer c.args.shelf.now w.let_go_onto.new.shelf before v.items
                (held_by keys (members_below s (p + 1)))) (sym w.spares-is)
                (fewer-then c.args.shelf.now c.loop-p.shelf w.let_go_onto.new.shelf before c.loop-p.spares.items w.let_go_onto.new.spares.items
                (held_by keys (members_below s p)) (one (slice_index keys p)) (held_by keys (members_below s (p + 1)))
                c.loop-p.invariant.fewer w.let_go_onto.ensures.fewer (λ k. held-in keys s k p (omega arith) here)));
            capacity = ap (λ (v : Vec LocalState Global). vec_capacity v) w.spares-is ∙ w.let_go_onto.ensures.capacity ∙ c.loop-p.invariant.capacity;
            bench =
                w.bench-is ∙ w.let_go_onto.ensures.bench ∙ ap (λ (k : LocalStates). with k (k.locals ++ value c.loop-p.shelf (slice_index keys p) ∷ []))
                c.loop-p.invariant.bench
                ∙ ap (λ (v : LocalState). with b (map f (members_below s p) ++ v ∷ []))
                (c.loop-p.invariant.fewer.values (slice_index keys p)
                (still-live keys s p (omega arith) (omega arith) here c.loop-p.invariant.fewer c.requires.held))
                ∙ ap (with b) (sym (map-members-in f s p (omega arith) here));
          }
      | else-has w ↦
          let out = sym c.has.ensures ∙ w.if-has.false in
          record {
            fewer =
                subst (λ (x : Shelf LocalState). HaveFewer c.args.shelf.now x before c.if-has.spares.items (held_by keys (members_below s (p + 1))))
                (sym w.shelf-is)
                (subst (λ (v : Vec LocalState Global). HaveFewer c.args.shelf.now c.loop-p.shelf before v.items (held_by keys (members_below s (p + 1))))
                (sym w.spares-is)
                (fewer-same c.args.shelf.now c.loop-p.shelf before c.loop-p.spares.items (held_by keys (members_below s p))
                (held_by keys (members_below s (p + 1)))
                c.loop-p.invariant.fewer (λ k. held-out keys s k p (omega arith) out)));
            capacity = ap (λ (v : Vec LocalState Global). vec_capacity v) w.spares-is ∙ c.loop-p.invariant.capacity;
            bench = w.bench-is ∙ c.loop-p.invariant.bench ∙ ap (with b) (sym (map-members-out f s p (omega arith) out));
          }
    ]

-- all processes were looked at
all : (c : goal.After-loop-p) → members_below c.args.processes c.loop-p.p ≡ members c.args.processes
all c =
    let t = c.loop-p-test.false in
    let few = c.requires.few in
    let end : c.loop-p.p ≡ length c.args.keys.now = omega arith in
    ap (members_below c.args.processes) end ∙ members-fit c.args.processes (length c.args.keys.now) (omega arith) c.requires.within

pub returns-clause-fewer : goal.returns-clause-fewer
returns-clause-fewer c =
    subst (λ (ps : List ℕ). HaveFewer c.args.shelf.now c.loop-p.shelf c.args.spares.now.items c.loop-p.spares.items (held_by c.args.keys.now ps)) (all c)
    c.loop-p.invariant.fewer

pub returns-clause-bench : goal.returns-clause-bench
returns-clause-bench c =
    let f : ℕ → LocalState = λ p. value c.args.shelf.now (slice_index c.args.keys.now p) in
    c.loop-p.invariant.bench ∙ ap (λ (b : LocalStates). with b (map f (members_below c.args.processes c.loop-p.p))) c.clear.ensures
    ∙ ap (λ ps. with c.args.bench.now (map f ps)) (all c)

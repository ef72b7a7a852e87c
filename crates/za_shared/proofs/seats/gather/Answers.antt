use Rattle.std.proofs.Common.{◌≡◌, ℕ, ◌≤◌, [], ◌∷◌, ◌++◌, List, map, length, slice_index, sym, ap, ◌∙◌, arith}
use Rattle.std.proofs.lemmas.List.{length-map}
use Rattle.za_alpha.specs.Procs.{members_below}
use Rattle.za_alpha.proofs.Members.{members_below-zero}
use Rattle.za_order.proofs.Rising.{map-members-in, map-members-out, members-fit, length-members_below-le}
use Rattle.za_local.specs.Locals.{LocalState}
use Rattle.za_local.specs.Benches.{LocalStates}
use Rattle.za_shared.specs.Holders.{value}
use Rattle.za_shared.proofs.Shelves.{value-got}
use Rattle.za_shared.proofs.seats.gather.Goals as goal
use Rattle.za_shared.proofs.seats.gather.Goals.{then-has, else-has}

abbrev with : LocalStates → List LocalState → LocalStates
with b ls = record b { locals = ls }

pub loop-p-init : goal.loop-p-init
loop-p-init c =
    let f : ℕ → LocalState = λ p. value c.args.shelf.now (slice_index c.args.keys.now p) in
    c.clear.ensures ∙ ap (with c.args.bench.now) (sym (ap (map f) (members_below-zero c.args.processes)))
    ∙ ap (λ (b : LocalStates). with b (map f (members_below c.args.processes 0))) (sym c.clear.ensures)

pub add-requires-clause-room : goal.add-requires-clause-room
add-requires-clause-room c =
    let f : ℕ → LocalState = λ p. value c.args.shelf.now (slice_index c.args.keys.now p) in
    let t = c.loop-p-test.true in
    let few = c.requires.few in
    let each = c.requires.each in
    let len = ap (λ (b : LocalStates). length b.locals) c.loop-p.invariant ∙ length-map (members_below c.args.processes c.loop-p.p) f in
    let le : length (members_below c.args.processes c.loop-p.p) ≤ c.loop-p.p = length-members_below-le c.args.processes c.loop-p.p (omega arith) in
    let n = ap (λ (b : LocalStates). b.processes) c.loop-p.invariant ∙ ap (λ (b : LocalStates). b.processes) c.clear.ensures in
    omega arith

pub loop-p-preserved : goal.loop-p-preserved
loop-p-preserved c =
    let f : ℕ → LocalState = λ p. value c.args.shelf.now (slice_index c.args.keys.now p) in
    let s = c.args.processes in
    let t = c.loop-p-test.true in
    let few = c.requires.few in
    let b = c.clear.new.self in
    elim c.if-has.branch [
      | then-has w ↦
          w.bench-is ∙ w.add.ensures ∙ ap (λ (k : LocalStates). with k (k.locals ++ w.get.result.now ∷ [])) c.loop-p.invariant
          ∙ ap (λ (v : LocalState). with b (map f (members_below s c.loop-p.p) ++ v ∷ []))
          (value-got c.args.shelf.now (slice_index c.args.keys.now c.loop-p.p) w.get.result.now w.get.ensures)
          ∙ ap (with b) (sym (map-members-in f s c.loop-p.p (omega arith) (sym c.has.ensures ∙ w.if-has.true)))
      | else-has w ↦
          w.bench-is ∙ c.loop-p.invariant ∙ ap (with b) (sym (map-members-out f s c.loop-p.p (omega arith) (sym c.has.ensures ∙ w.if-has.false)))
    ]

pub returns : goal.returns
returns c =
    let f : ℕ → LocalState = λ p. value c.args.shelf.now (slice_index c.args.keys.now p) in
    let s = c.args.processes in
    let t = c.loop-p-test.false in
    let few = c.requires.few in
    let end : c.loop-p.p ≡ length c.args.keys.now = omega arith in
    c.loop-p.invariant ∙ ap (λ (b : LocalStates). with b (map f (members_below s c.loop-p.p))) c.clear.ensures
    ∙ ap (λ k. with c.args.bench.now (map f (members_below s k))) end
    ∙ ap (λ ps. with c.args.bench.now (map f ps)) (members-fit s (length c.args.keys.now) (omega arith) c.requires.within)

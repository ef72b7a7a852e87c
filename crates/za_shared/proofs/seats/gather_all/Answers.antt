use Rattle.std.proofs.Common.{ℕ, [], ◌∷◌, ◌++◌, List, map, take, length, slice_index, sym, ap, ◌∙◌, arith}
use Rattle.std.proofs.lemmas.List.{length-map, length-take-le, take_more, take_all, map-append}
use Rattle.za_local.specs.Locals.{LocalState}
use Rattle.za_local.specs.Benches.{LocalStates}
use Rattle.za_shared.specs.Holders.{value}
use Rattle.za_shared.proofs.Shelves.{value-got}
use Rattle.za_shared.proofs.seats.gather_all.Goals as goal

abbrev with : LocalStates → List LocalState → LocalStates
with b ls = record b { locals = ls }

pub loop-p-init : goal.loop-p-init
loop-p-init c = c.clear.ensures ∙ ap (λ (b : LocalStates). with b []) (sym c.clear.ensures)

pub add-requires-clause-room : goal.add-requires-clause-room
add-requires-clause-room c =
    let keys = c.args.keys.now in
    let t = c.loop-p-test.true in
    let each = c.requires.each in
    let len = ap (λ (b : LocalStates). length b.locals) c.loop-p.invariant ∙ length-map (take c.loop-p.p keys) (value c.args.shelf.now)
    ∙ length-take-le c.loop-p.p keys (omega arith) in
    let n = ap (λ (b : LocalStates). b.processes) c.loop-p.invariant ∙ ap (λ (b : LocalStates). b.processes) c.clear.ensures in
    omega arith

pub loop-p-preserved : goal.loop-p-preserved
loop-p-preserved c =
    let f = value c.args.shelf.now in
    let keys = c.args.keys.now in
    let p : ℕ = c.loop-p.p in
    let b = c.clear.new.self in
    c.add.ensures ∙ ap (λ (k : LocalStates). with k (k.locals ++ c.get.result.now ∷ [])) c.loop-p.invariant
    ∙ ap (λ (v : LocalState). with b (map f (take p keys) ++ v ∷ [])) (value-got c.args.shelf.now (slice_index keys p) c.get.result.now c.get.ensures)
    ∙ ap (with b) (sym (map-append f (take p keys) (slice_index keys p ∷ [])) ∙ ap (map f) (sym (take_more keys p 0 c.loop-p-test.true)))

pub returns : goal.returns
returns c =
    let f = value c.args.shelf.now in
    let keys = c.args.keys.now in
    let t = c.loop-p-test.false in
    c.loop-p.invariant ∙ ap (λ (b : LocalStates). with b (map f (take c.loop-p.p keys))) c.clear.ensures
    ∙ ap (λ ks. with c.args.bench.now (map f ks)) (take_all c.loop-p.p keys (omega arith))

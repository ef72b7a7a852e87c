use Rattle.std.proofs.Common.{◌≡◌, ℕ, ◌+◌, ◌≤◌, ◌<◌, ◌∷◌, [], ◌++◌, List, Some, Option, map, take, length, slice_get, slice_index, true, false, refl, sym, ap}
use Rattle.std.proofs.Common.{subst, ◌∙◌, arith, length-append}
use Rattle.std.proofs.lemmas.List.{length-map}
use Rattle.za_alpha.specs.Procs.{members, members_below}
use Rattle.za_alpha.proofs.Members.{members_below-zero}
use Rattle.za_order.proofs.Rising.{map-members-in, map-members-out, members-fit, length-members_below-le}
use Rattle.za_local.specs.Locals.{LocalState}
use Rattle.za_shared.specs.Holders.{value, values_at}
use Rattle.za_shared.proofs.Shelves.{value-got}
use Rattle.za_shared.proofs.Placing.{stands, take-got, same-all, never}
use Rattle.za_shared.proofs.seats.are_on.Goals as goal
use Rattle.za_shared.proofs.seats.are_on.Goals.{then-has+else-not-is_on, else-has}

pub loop-p-init : goal.loop-p-init
loop-p-init c =
    let f : ℕ → LocalState = λ p. value c.args.shelf.now (slice_index c.args.keys.now p) in
    let none = ap (map f) (members_below-zero c.args.processes) in
    record { place = sym (ap length none); front = sym none }

pub returns-then-not-is_on : goal.returns-then-not-is_on
returns-then-not-is_on c =
    let f : ℕ → LocalState = λ p. value c.args.shelf.now (slice_index c.args.keys.now p) in
    let ps = members c.args.processes in
    let p : ℕ = c.loop-p.p in
    let few = c.requires.few in
    let t = c.loop-p-test.true in
    never false refl (λ (same : c.args.bench.now.locals ≡ values_at c.args.shelf.now c.args.keys.now ps).
    let is : slice_get c.args.bench.now.locals c.loop-p.place ≡ Some c.get.result.now =
    ap (λ (xs : List LocalState). slice_get xs c.loop-p.place) same ∙ ap (slice_get (map f ps)) c.loop-p.invariant.place
    ∙ stands f c.args.processes p (omega arith) (sym c.if-has.ensures)
    ∙ ap Some (sym (value-got c.args.shelf.now (slice_index c.args.keys.now p) c.get.result.now c.get.ensures)) in
    let z : false ≡ true = sym c.if-not-is_on.true ∙ c.is_on.ensures.1 is in cc)

pub overflow_add-place : goal.overflow_add-place
overflow_add-place c =
    let f : ℕ → LocalState = λ p. value c.args.shelf.now (slice_index c.args.keys.now p) in
    let few = c.requires.few in
    let t = c.loop-p-test.true in
    let le : length (members_below c.args.processes c.loop-p.p) ≤ c.loop-p.p = length-members_below-le c.args.processes c.loop-p.p (omega arith) in
    let e = c.loop-p.invariant.place ∙ length-map (members_below c.args.processes c.loop-p.p) f in
    omega arith

pub loop-p-preserved : goal.loop-p-preserved
loop-p-preserved c =
    let f : ℕ → LocalState = λ p. value c.args.shelf.now (slice_index c.args.keys.now p) in
    let s = c.args.processes in
    let p : ℕ = c.loop-p.p in
    let locals = c.args.bench.now.locals in
    let few = c.requires.few in
    let t = c.loop-p-test.true in
    elim c.if-has.branch [
      | then-has+else-not-is_on w ↦
          let more = map-members-in f s p (omega arith) (sym c.has.ensures ∙ w.if-has.true) in
          let is : slice_get locals c.loop-p.place ≡ Some (f p) =
          w.is_on.ensures.0 w.if-not-is_on.false ∙ ap Some (value-got c.args.shelf.now (slice_index c.args.keys.now p) w.get.result.now w.get.ensures) in
          record {
            place =
                let e = w.place-is in
                let i = c.loop-p.invariant.place in
                let m = ap length more ∙ length-append (map f (members_below s p)) (f p ∷ []) in omega arith;
            front = ap (λ n. take n locals) w.place-is ∙ take-got locals c.loop-p.place (f p) is ∙ ap (λ xs. xs ++ f p ∷ []) c.loop-p.invariant.front
                ∙ sym more;
          }
      | else-has w ↦
          let same = map-members-out f s p (omega arith) (sym c.has.ensures ∙ w.if-has.false) in
          record {
            place = w.place-is ∙ c.loop-p.invariant.place ∙ ap length (sym same);
            front = ap (λ n. take n locals) w.place-is ∙ c.loop-p.invariant.front ∙ sym same;
          }
    ]

pub returns : goal.returns
returns c =
    let f : ℕ → LocalState = λ p. value c.args.shelf.now (slice_index c.args.keys.now p) in
    let s = c.args.processes in
    let few = c.requires.few in
    let t = c.loop-p-test.false in
    let end : c.loop-p.p ≡ length c.args.keys.now = omega arith in
    let all : map f (members_below s c.loop-p.p) ≡ map f (members s) =
    ap (λ k. map f (members_below s k)) end ∙ ap (map f) (members-fit s (length c.args.keys.now) (omega arith) c.requires.within) in
    subst (λ (n : ℕ). (Rattle.std.proofs.Common.IsTrue (Rattle.std.proofs.Common.nat_eq c.loop-p.place n) → c.args.bench.now.locals ≡ map f (members s)) ×
    (c.args.bench.now.locals ≡ map f (members s) → Rattle.std.proofs.Common.IsTrue (Rattle.std.proofs.Common.nat_eq c.loop-p.place n)))
    (sym c.len.ensures)
    (same-all c.args.bench.now.locals (map f (members s)) c.loop-p.place (c.loop-p.invariant.place ∙ ap length all) (c.loop-p.invariant.front ∙ all))

use Rattle.std.proofs.Common.{List, ◌∷◌, [], sym, ap, subst, arith, length, length-append}
use Rattle.std.specs.List.{All}
use Rattle.std.proofs.lemmas.List.Elements.{All-push}
use Rattle.za_local.specs.Locals.{LocalState, HasShape}
use Rattle.za_local.proofs.Shapes.{shape-after}
use Rattle.za_shared.proofs.opening.openings.Goals as goal

pub loop-i-preserved : goal.loop-i-preserved
loop-i-preserved c =
    let d = c.args.closed.now in
    let v : LocalState = c.in_ok-opening.field-0 in
    let n = d.alphabet.processes in
    record {
      count = let e = ap length c.push_reserved.ensures.items in let f = length-append c.loop-i.locals.items (v ∷ []) in let g = c.loop-i.invariant.count in
          omega arith;
      room = let e = c.push_reserved.ensures.capacity in let r = c.loop-i.invariant.room in omega arith;
      shaped = subst (All (HasShape n d.states)) (sym {A = List LocalState} c.push_reserved.ensures.items)
          (All-push (HasShape n d.states) c.loop-i.locals.items v c.loop-i.invariant.shaped
          (subst (HasShape n d.states) (sym (c.in_ok-opening.ensures 0)) (shape-after d [] 0)));
    }

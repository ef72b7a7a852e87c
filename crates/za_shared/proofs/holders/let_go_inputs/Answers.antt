use Rattle.std.proofs.Common.{◌≡◌, ◌≢◌, ◌+◌, ◌∙◌, ap, sym, subst, inl, inr, take, true, false, slice_index, Vec, Global, vec_capacity}
use Rattle.std.specs.Prelude.{◌⊎◌}
use Rattle.za_alpha.specs.Words.{has}
use Rattle.za_local.specs.Locals.{LocalState}
use Rattle.za_records.specs.Shelf.{Shelf}
use Rattle.za_shared.specs.Private.Steps.{one, named_before, HaveFewer}
use Rattle.za_shared.proofs.Named.{fewer-then, fewer-same, named-new, named-old, named-output, match-true, match-false}
use Rattle.za_shared.proofs.holders.let_go_inputs.Goals.{then-is_new, else-is_new}
use Rattle.za_shared.proofs.holders.let_go_inputs.Goals as goal

pub loop-i-preserved : goal.loop-i-preserved
loop-i-preserved c =
    let inputs = c.args.inputs.now in
    let output = c.args.output in
    let i = c.loop-i.i in
    let x = slice_index inputs i in
    let New = (x ≢ output) × (has (take i inputs) x ≡ false) in
    let Old = (x ≡ output) ⊎ (has (take i inputs) x ≡ true) in
    elim c.if-is_new.branch [
      | then-is_new w ↦
          let n = match-true c.is_new.result New Old c.is_new.ensures w.if-is_new.true in (
            subst (λ (s : Shelf LocalState). HaveFewer c.args.shelf.now s c.args.spares.now.items c.if-is_new.spares.items
                (named_before inputs output (i + 1))) (sym w.shelf-is)
                (subst (λ (v : Vec LocalState Global). HaveFewer c.args.shelf.now w.let_go.new.shelf c.args.spares.now.items v.items
                (named_before inputs output (i + 1))) (sym w.spares-is)
                (fewer-then c.args.shelf.now c.loop-i.shelf w.let_go.new.shelf c.args.spares.now.items c.loop-i.spares.items w.let_go.new.spares.items
                (named_before inputs output i) (one x) (named_before inputs output (i + 1))
                c.loop-i.invariant.0 w.let_go.ensures.fewer (named-new inputs output i c.loop-i-test.true n.1 n.0))),
            ap (λ (v : Vec LocalState Global). vec_capacity v) w.spares-is ∙ w.let_go.ensures.capacity ∙ c.loop-i.invariant.1,
          )
      | else-is_new w ↦
          let o = match-false c.is_new.result New Old c.is_new.ensures w.if-is_new.false in (
            subst (λ (s : Shelf LocalState). HaveFewer c.args.shelf.now s c.args.spares.now.items c.if-is_new.spares.items
                (named_before inputs output (i + 1))) (sym w.shelf-is)
                (subst (λ (v : Vec LocalState Global). HaveFewer c.args.shelf.now c.loop-i.shelf c.args.spares.now.items v.items
                (named_before inputs output (i + 1))) (sym w.spares-is)
                (fewer-same c.args.shelf.now c.loop-i.shelf c.args.spares.now.items c.loop-i.spares.items (named_before inputs output i)
                (named_before inputs output (i + 1)) c.loop-i.invariant.0
                (elim o [ inl e ↦ named-output inputs output i c.loop-i-test.true e | inr t ↦ named-old inputs output i c.loop-i-test.true t ]))),
            ap (λ (v : Vec LocalState Global). vec_capacity v) w.spares-is ∙ c.loop-i.invariant.1,
          )
    ]

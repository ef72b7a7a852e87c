use Rattle.std.proofs.Common.{◌≡◌, ◌≢◌, ◌+◌, sym, subst, inl, inr, take, true, false, slice_index}
use Rattle.std.specs.Prelude.{◌⊎◌}
use Rattle.za_alpha.specs.Words.{has}
use Rattle.za_local.specs.Locals.{LocalState}
use Rattle.za_records.specs.Shelf.{Shelf}
use Rattle.za_shared.specs.Private.Steps.{one, named_before, HaveMore}
use Rattle.za_shared.proofs.Named.{more-then, more-same, named-new, named-old, named-output, match-true, match-false}
use Rattle.za_shared.proofs.holders.hold_inputs.Goals.{then-is_new, else-is_new}
use Rattle.za_shared.proofs.holders.hold_inputs.Goals as goal

pub loop-i-preserved : goal.loop-i-preserved
loop-i-preserved c =
    let inputs = c.args.inputs.now in
    let output = c.args.output in
    let i = c.loop-i.i in
    let x = slice_index inputs i in
    let New = (x ≢ output) × (has (take i inputs) x ≡ false) in
    let Old = (x ≡ output) ⊎ (has (take i inputs) x ≡ true) in
    elim c.if-is_new.branch [
      | then-is_new w ↦
          let n = match-true c.is_new.result New Old c.is_new.ensures w.if-is_new.true in
          subst (λ (s : Shelf LocalState). HaveMore c.args.shelf.now s (named_before inputs output (i + 1))) (sym w.shelf-is)
          (more-then c.args.shelf.now c.loop-i.shelf w.hold.new.shelf (named_before inputs output i) (one x)
          (named_before inputs output (i + 1)) c.loop-i.invariant w.hold.ensures (named-new inputs output i c.loop-i-test.true n.1 n.0))
      | else-is_new w ↦
          let o = match-false c.is_new.result New Old c.is_new.ensures w.if-is_new.false in
          subst (λ (s : Shelf LocalState). HaveMore c.args.shelf.now s (named_before inputs output (i + 1))) (sym w.shelf-is)
          (more-same c.args.shelf.now c.loop-i.shelf (named_before inputs output i) (named_before inputs output (i + 1)) c.loop-i.invariant
          (elim o [ inl e ↦ named-output inputs output i c.loop-i-test.true e | inr t ↦ named-old inputs output i c.loop-i-test.true t ]))
    ]

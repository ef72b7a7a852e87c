use Rattle.std.proofs.Common.{◌+◌, ◌^◌, sym, subst, arith}
use Rattle.za_order.specs.Labels.{number_of}
use Rattle.za_alpha.specs.Limits.{most_processes}
use Rattle.za_ids.proofs.Numbers.{cube-small}
use Rattle.za_ids.proofs.Marks.{AreMarked, marks-none, marks-place}
use Rattle.za_ids.proofs.labels.mark_labels.Goals as goal

pub loop-id-init : goal.loop-id-init
loop-id-init c =
    let s = cube-small c.args.n c.requires.few_processes in
    subst (λ t. AreMarked (number_of c.args.n c.args.a.0) (c.args.n ^ 3) c.args.ids.now t 0) (sym c.requires.none)
    (marks-none (number_of c.args.n c.args.a.0) (c.args.n ^ 3) c.args.ids.now (most_processes ^ 3 + 2) (omega arith))

pub bounds-taken-place_from : goal.bounds-taken-place_from
bounds-taken-place_from c =
    let s = cube-small c.args.n c.requires.few_processes in
    omega (arith, c.place_from.ensures.within, c.label_count-labels.ensures.value)

pub loop-id-preserved : goal.loop-id-preserved
loop-id-preserved c =
    let v = c.place_from.ensures.value in
    let labels = c.label_count-labels.ensures.value in
    let first = c.id_of-first.ensures in
    marks-place (number_of c.args.n c.args.a.0) (c.args.n ^ 3) c.args.ids.now c.loop-id.taken c.loop-id.id-index c.place_from.result (record { 0 = 0 })
    c.loop-id-test.true c.loop-id.invariant
    (λ k h. ((λ e. let w = (v k (omega arith)).0 e in omega arith), λ e. (v k (omega arith)).1 (omega arith)))

use Rattle.std.proofs.Common.{◌≡◌, ap, sym, refl, subst, length-set}
use Rattle.za_expression.specs.Forms.{Part}
use Rattle.za_expression.specs.Following.{goes}
use Rattle.za_form.specs.Private.Trees.{tree, form}
use Rattle.za_form.specs.Private.Sets.{AddsSteps, IsFormBelow}
use Rattle.za_form.proofs.Occurrences.{part_added}
use Rattle.za_form.proofs.places.+add_form.Goals as goal
use Rattle.std.proofs.Math.ListN.{set}

pub returns-in-Part : goal.returns-in-Part
returns-in-Part t c =
    let e = tree c.in-Part.e in
    let is : form c.args.f.now ≡ Part e = ap form c.in-Part.is in
    let old = c.args.rows.now in
    let mid = c.add_follows.new.rows in
    let new = set mid 0 c.either.result in
    let within = subst (λ f. IsFormBelow 128 f) is c.requires.within in
    subst (λ f. AddsSteps old new (goes f)) (sym is)
    (part_added 128 e old mid new c.first.result c.either.result within c.requires.some c.add_follows.ensures c.first.ensures c.either.ensures refl
    (length-set mid 0 c.either.result))

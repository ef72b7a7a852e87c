use Rattle.std.proofs.Common.{◌≡◌, ◌∙◌, ap, sym}
use Rattle.za_expression.specs.Forms.{Part}
use Rattle.za_expression.specs.Following.{ends, accepts}
use Rattle.za_form.specs.Private.Trees.{tree, form}
use Rattle.za_form.specs.Private.Numbers.{places_of}
use Rattle.za_form.proofs.BitSets.{any_common}
use Rattle.za_form.proofs.places.+accepts.Goals as goal

pub returns-in-Part : goal.returns-in-Part
returns-in-Part t c = λ n l.
    let is : form c.args.f.now ≡ Part (tree c.in-Part.e) = ap form c.in-Part.is in
    any_common c.ends.result c.args.m n (ends (tree c.in-Part.e)) c.ends.ensures.bits l ∙ ap (λ f. accepts f (places_of n c.args.m)) (sym is)

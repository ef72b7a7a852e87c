use Rattle.std.proofs.Common.{◌≡◌, ◌<◌, ◌^◌, ◌%◌, ◌*◌, ap, ◌∙◌}
use Rattle.std.proofs.Math.Nat.{mod-eq_of_lt, one-mul}
use Rattle.std.proofs.lemmas.Nat.{pow_below}
use Rattle.za_form.specs.Private.Numbers.{has_bit}
use Rattle.za_form.proofs.BitSets.{has_bit-pow}
use Rattle.za_form.proofs.places.one_place.Goals as goal

pub returns : goal.returns
returns c =
    let p = c.args.p in
    let l : 2 ^ p < 2 ^ 128 = pow_below p 128 c.requires in
    let e : 1 * 2 ^ p % 2 ^ 128 ≡ 2 ^ p = ap (λ x. x % 2 ^ 128) (one-mul (2 ^ p)) ∙ mod-eq_of_lt l in
    record { bits = λ q. ap (λ x. has_bit x q) e ∙ has_bit-pow p q }

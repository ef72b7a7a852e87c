use Rattle.std.proofs.Common.{◌≡◌, true, false, inl, inr, refl, sym, subst, ◌∙◌}
use Rattle.std.proofs.lemmas.Bool.{cases_Bool}
use Rattle.za_local.specs.Locals.{IsShapedAs}
use Rattle.za_local.specs.Same.{same_local}
use Rattle.za_local.proofs.Same.{same_local-is}
use Rattle.za_local.proofs.local.LocalPartialEq.eq.Goals as goal

pub returns-else-is_shaped_as : goal.returns-else-is_shaped_as
returns-else-is_shaped_as c = elim (cases_Bool (same_local c.args.self.now c.args.other.now)) [
  | inr f ↦ c.if-is_shaped_as.false ∙ sym f
  | inl y ↦ absurd (
      let one : IsShapedAs c.args.self.now c.args.self.now = record { gossip = refl; processes = c.is_shaped_as.ensures.whole; states = refl } in
      let t = c.is_shaped_as.ensures.value.1 (subst (IsShapedAs c.args.self.now) (same_local-is c.args.self.now c.args.other.now y) one) in
      let z : true ≡ false = sym t ∙ c.if-is_shaped_as.false in cc)
]

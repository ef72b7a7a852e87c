use Rattle.std.proofs.Common.{◌≡◌, ℕ, [], ◌∷◌, sym, ap, subst, ◌∙◌, map}
use Rattle.za_shared.specs.Holders.{value}
use Rattle.za_shared.specs.Records.{Records, IsTransition}
use Rattle.za_shared.specs.Private.Inside.{own_in}
use Rattle.za_shared.proofs.Entering.{adopted-transition}
use Rattle.za_shared.proofs.shared.SharedLocals.enter.Goals as goal

pub remember-requires-clause-transition : goal.remember-requires-clause-transition
remember-requires-clause-transition c =
    let s = c.args.self.now in
    let t = c.adopt.new.self in
    let inputs = c.args.inputs.now in
    let e : c.adopt.ensures.key ∷ [] ≡ c.in-Some.output ∷ [] = sym c.adopt.ensures.own ∙ ap (λ (x : Records). x.own) (sym c.self.view_is)
    ∙ ap own_in c.in-Some.is in
    let same : c.adopt.ensures.key ≡ c.in-Some.output = cc in
    subst (λ (x : ℕ). IsTransition t.dfa c.args.a.0 (map (value t.shelf) inputs) (value t.shelf x)) same
    (adopted-transition s t c.args.a.0 inputs c.adopt.ensures c.requires.live c.requires.transition)

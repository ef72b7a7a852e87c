use Rattle.std.proofs.Common.{◌≡◌, ◌∙◌, ℕ, ◌+◌, ◌*◌, ◌<◌, sym, ap, refl, Option, Some, None, arith}
use Rattle.std.specs.Prelude.{IfSome, slice_index_or}
use Rattle.std.proofs.lemmas.Grind.{common_steps}
use Rattle.za_dfa.specs.Partials.{PartialDfa}
use Rattle.za_dfa.proofs.partial.Partial.target.Goals as goal

below_if_some : (o : Option ℕ) (n : ℕ) → ((t : ℕ) → o ≡ Some t → t < n) → IfSome o (λ t. t < n)
below_if_some None n h = tt
below_if_some (Some t) n h = h t refl

pub returns-clause-within : goal.returns-clause-within
returns-clause-within c =
    let i = c.args.q * c.letters.result + c.args.a.0 in
    let seen : c.index.result.now ≡ slice_index_or c.self.inside.targets.items i None = grind (arith, common_steps) in
    let states = ap (λ (p : PartialDfa). p.states) c.self.view_is in
    rw (← states) (below_if_some c.index.result.now c.self.inside.states (λ t e. c.self.invariant.targets_below i t (sym seen ∙ e)))

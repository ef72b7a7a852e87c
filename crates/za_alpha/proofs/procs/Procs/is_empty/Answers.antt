use Rattle.std.proofs.Common.{ap, ◌∙◌, eq-eqb, eqb-true, arith, List, ℕ}
use Rattle.za_alpha.specs.Procs.{members}
use Rattle.za_alpha.proofs.Members.{members-zero, zero-members}
use Rattle.za_alpha.proofs.procs.Procs.is_empty.Goals as goal

pub returns : goal.returns
returns c = (
  (λ h. let set : ℕ → List ℕ = λ n. members (record { 0 = n }) in ap set (eqb-true _ _ h) ∙ members-zero),
  (λ h. eq-eqb _ _ (zero-members c.args.self.0 (omega arith) h)),
)

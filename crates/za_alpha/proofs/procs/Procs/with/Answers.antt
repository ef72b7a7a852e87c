use Rattle.std.proofs.Common.{ap}
use Rattle.std.specs.Prelude.{ℕ, bit_or}
use Rattle.std.proofs.lemmas.Nat.{one_shl}
use Rattle.za_alpha.specs.declared.procs.Procs.{Procs}
use Rattle.za_alpha.proofs.Members.{has-with}
use Rattle.za_alpha.proofs.procs.Procs.with.Goals as goal

pub returns-clause-value : goal.returns-clause-value
returns-clause-value c = let at : ℕ → Procs = λ n. record { 0 = bit_or c.args.self.0 n } in ap at (one_shl c.args.p 16 c.requires)

pub returns-clause-joined : goal.returns-clause-joined
returns-clause-joined c q = has-with c.args.self.0 c.args.p q c.requires

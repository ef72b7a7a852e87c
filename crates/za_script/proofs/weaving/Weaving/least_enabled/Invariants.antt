use Rattle.std.proofs.Common.{ℕ, ◌<◌}
use Rattle.za_script.specs.Private.Weaving.{IsGathered}
use Rattle.za_script.proofs.weaving.Weaving.least_enabled.Given as goal

abbrev pub invariant-loop-at : goal.invariant-loop-at
invariant-loop-at l = (b : ℕ) → b < l.at → IsGathered l.alphabet l.self.sets.items b → ⊥

use Rattle.std.proofs.Common.{◌≡◌, ◌<◌, ℕ}
use Rattle.std.specs.List.{Any}
use Rattle.za_hall.proofs.closing.least_missing.Given as goal

abbrev pub invariant-loop-process : goal.invariant-loop-process
invariant-loop-process l = (p : ℕ) → p < l.process → Any (λ d. d.number ≡ p) l.desks

use Rattle.std.proofs.Common.{◌≡◌, ℕ, ◌<◌, false}
use Rattle.za_records.specs.Shelf.{at, passes}
use Rattle.za_records.proofs.shelf.Shelf.same_marked.Given as goal

abbrev pub invariant-loop-key : goal.invariant-loop-key
invariant-loop-key g l = (k : ℕ) → k < l.key → passes (λ v. g.T.PartialEq.eq v l.value) (at l.self k) ≡ false

use Rattle.std.proofs.Common.{◌≡◌, ℕ, map, take, Some}
use Rattle.za_dfa.proofs.partial.whole_cells.Given as goal

-- the cells of the targets so far
abbrev pub invariant-loop-target : goal.invariant-loop-target
invariant-loop-target l = l.cells.items ≡ map (λ (target : ℕ). Some target) (take l.target-index l.targets)

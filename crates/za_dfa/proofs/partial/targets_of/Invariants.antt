use Rattle.std.proofs.Common.{◌≡◌, map, take}
use Rattle.std.specs.Prelude.{unwrap_or}
use Rattle.za_dfa.proofs.partial.targets_of.Given as goal

-- the targets of the cells so far
abbrev pub invariant-loop-cell : goal.invariant-loop-cell
invariant-loop-cell l = l.targets.items ≡ map (λ cell. unwrap_or cell l.added) (take l.cell-index l.cells)

use Rattle.std.proofs.Common.{◌≡◌, ℕ}
use Rattle.std.specs.List.{range_with_len, list_any}
use Rattle.za_alpha.specs.Words.{has}
use Rattle.za_alpha.specs.Procs.{members}
use Rattle.za_residue.specs.Masks.{is_shared}
use Rattle.za_local.specs.Private.Shared.{primary_row}
use Rattle.za_local.proofs.masks.earlier_of.Given as goal

-- what is shared with the first inputs is there
abbrev pub invariant-loop-j : goal.invariant-loop-j
invariant-loop-j l = (s : ℕ) → has (members l.earlier) s ≡ list_any (λ j. is_shared (primary_row l.inputs l.i) (primary_row l.inputs j) s)
    (range_with_len 0 l.j)

use Rattle.std.proofs.Common.{◌≡◌, ◌++◌, take}
use Rattle.za_text.specs.Printed.{spaced}
use Rattle.za_print.proofs.print.push_all_names.Given as goal

-- the names so far
abbrev pub invariant-loop-p : goal.invariant-loop-p
invariant-loop-p l = l.text.items ≡ l.initial.text.items ++ spaced (take l.p l.names)

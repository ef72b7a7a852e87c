use Rattle.std.proofs.Common.{◌≡◌, ◌++◌, map}
use Rattle.za_alpha.specs.Procs.{members_below}
use Rattle.za_text.specs.Printed.{spaced}
use Rattle.za_text.specs.ProcessNames.{name_of}
use Rattle.za_print.proofs.print.push_processes.Given as goal

-- the processes so far
abbrev pub invariant-loop-p : goal.invariant-loop-p
invariant-loop-p l = l.text.items ≡ l.initial.text.items ++ spaced (map (name_of l.names) (members_below l.processes l.p))

use Rattle.std.proofs.Common.{◌≡◌, [], map}
use Rattle.za_alpha.specs.Procs.{members_below}
use Rattle.za_residue.specs.Residues.{table_residues}
use Rattle.knowledge_tests.proofs.residues.blanks.Given as goal

-- those of the first processes are there
abbrev pub invariant-loop-x : goal.invariant-loop-x
invariant-loop-x l = l.all.items ≡ map (table_residues l.closed []) (members_below l.participants l.x)

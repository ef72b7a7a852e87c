use Rattle.std.proofs.Common.{◌≡◌, [], map}
use Rattle.std.specs.List.{range_with_len}
use Rattle.za_residue.specs.Residues.{table_residues}
use Rattle.knowledge_tests.proofs.residues.all_blanks.Given as goal

-- the first are there
abbrev pub invariant-loop : goal.invariant-loop
invariant-loop l = l.all.items ≡ map (table_residues l.closed []) (range_with_len 0 l.counter)

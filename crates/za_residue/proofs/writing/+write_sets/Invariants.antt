use Rattle.za_residue.proofs.writing.+write_sets.Given as goal

abbrev pub decreases-write_sets : goal.decreases-write_sets
decreases-write_sets l = l.processes

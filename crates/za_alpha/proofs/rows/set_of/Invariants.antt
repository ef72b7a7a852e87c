use Rattle.std.proofs.Common.{◌≡◌, drop}
use Rattle.std.specs.Prelude.{fold}
use Rattle.za_alpha.specs.Procs.{with_process}
use Rattle.za_alpha.specs.Rows.{set_of}
use Rattle.za_alpha.proofs.rows.set_of.Given as goal

-- the rest, put into the set so far, gives the set of all
abbrev pub invariant-loop-process : goal.invariant-loop-process
invariant-loop-process l = fold with_process l.set (drop l.process-index l.processes) ≡ set_of l.processes

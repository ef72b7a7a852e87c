use Rattle.za_hall.specs.Halls.{IsSameDesk}
use Rattle.za_runner.proofs.worker.work.Given as goal

abbrev pub invariant-loop : goal.invariant-loop
invariant-loop g l = IsSameDesk l.fn.desk l.desk

use Rattle.std.proofs.Common.{All}
use Rattle.za_hall.specs.Halls.{IsOf}
use Rattle.table_tests.proofs.hall.try_all.Given as goal

abbrev pub invariant-loop-p : goal.invariant-loop-p
invariant-loop-p g l = All (λ d. IsOf d l.hall) l.desks.items

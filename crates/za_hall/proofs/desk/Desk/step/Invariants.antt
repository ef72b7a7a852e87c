use Rattle.std.proofs.Common.{◌≡◌}
use Rattle.za_hall.specs.Halls.{IsSameDesk, fired}
use Rattle.za_hall.specs.Private.Serving.{SoFar, Waited}
use Rattle.za_hall.proofs.desk.Desk.step.Given as goal

abbrev pub invariant-loop : goal.invariant-loop
invariant-loop g l = IsSameDesk l.fn.self l.self × (fired l.self ≡ fired l.fn.self) × SoFar l.fn.self.view l.self.view × Waited l.fn.self l.self

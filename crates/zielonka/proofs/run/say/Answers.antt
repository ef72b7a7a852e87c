use Rattle.zielonka.specs.Run.{Whole, Part}
use Rattle.zielonka.proofs.run.say.Goals as goal

pub returns-in-Ok : goal.returns-in-Ok
returns-in-Ok g c = Whole c.in-Ok.ensures.0 c.in-Ok.ensures.1

pub returns-in-Err : goal.returns-in-Err
returns-in-Err g c = Part c.in-Err.field-0 c.in-Err.ensures.0 c.in-Err.ensures.1 c.in-Err.ensures.2

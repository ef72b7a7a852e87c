use Rattle.za_hall.proofs.Calls.{step_fires}
use Rattle.za_hall.proofs.desk.Desk.step.Goals as goal

pub returns-in-None-pause_after-clause-fires : goal.returns-in-None-pause_after-clause-fires
returns-in-None-pause_after-clause-fires g c = let i = c.loop.invariant in let t = c.try_step-turn.ensures in
    step_fires c.args.self.now c.loop.self c.try_step-turn.new.self c.try_step-turn.result i.0.number i.1 t.seen t.fires i.3

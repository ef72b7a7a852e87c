-- What workers hand back.
use Rattle.std.specs.Prelude.{◌≡◌, true, false}
use Rattle.za_hall.specs.Halls.{DeskState, IsSameDesk}
use Rattle.za_runner.specs.declared.worker.Worked.{Worked}

-- a worker hands back its own desk, which has seen that all is over unless the worker was called off
pub record HandsBack (d : DeskState) (w : Worked) : Type 0 where
  pub own : IsSameDesk d w.desk
  pub over : w.called_off ≡ false → w.desk.view.over ≡ true

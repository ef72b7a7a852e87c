use Rattle.std.proofs.Common.{◌≡◌, ◌<◌, ℕ, get_or}
use Rattle.za_hall.specs.Halls.{DeskState}
use Rattle.za_hall.proofs.closing.has_desk.Given as goal

abbrev pub invariant-loop-desk : goal.invariant-loop-desk
invariant-loop-desk l = (k : ℕ) (d : DeskState) → k < l.desk-index → (get_or l.desks k d).number ≡ l.process → ⊥

use Rattle.std.proofs.Common.{◌≡◌, ◌<◌, ◌≤◌, ℕ, get_or, true, false, MatchOption}
use Rattle.std.specs.List.{Any}
use Rattle.za_hall.specs.Halls.{DeskState}
use Rattle.za_hall.proofs.closing.least_waiting.Given as goal

abbrev pub invariant-loop-desk : goal.invariant-loop-desk
invariant-loop-desk l = MatchOption l.least ((k : ℕ) (d : DeskState) → k < l.desk-index → (get_or l.desks k d).view.over ≡ true)
    (λ p. Any (λ d. (d.number ≡ p) × (d.view.over ≡ false)) l.desks × ((k : ℕ) (d : DeskState) → k < l.desk-index → (get_or l.desks k d).view.over ≡ false
    → p ≤ (get_or l.desks k d).number))

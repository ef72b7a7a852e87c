-- The desks of a run, wherever they are: with the caller, or with workers.
use Rattle.std.specs.Prelude.{◌≡◌, ◌⊎◌, ℕ, List, map, All, true}
use Rattle.std.specs.declared.thread.PromisedHandle.{PromisedHandle}
use Rattle.za_alpha.specs.Words.{has}
use Rattle.za_hall.specs.Halls.{HallState, DeskState, IsOf}
use Rattle.za_runner.specs.declared.worker.Worked.{Worked}
use Rattle.za_runner.specs.declared.worker.OwnDesk.{OwnDesk}

abbrev pub desk_numbers : List DeskState → List ℕ
desk_numbers ds = map (λ (d : DeskState). d.number) ds

abbrev pub AreOf : HallState → List DeskState → Type 0
AreOf h ds = All (λ d. IsOf d h) ds

-- each process of the first list is in one of the others
abbrev pub AreIn : List ℕ → List ℕ → List ℕ → Type 0
AreIn xs ys zs = (p : ℕ) → has xs p ≡ true → (has ys p ≡ true) ⊎ (has zs p ≡ true)

-- the process of the desk that a worker is to hand back
abbrev pub promised : PromisedHandle Worked OwnDesk → ℕ
promised h = h.promise.0.value.number

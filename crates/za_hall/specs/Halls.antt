-- What contracts see of halls and desks, and of closing a hall and giving it up.
use Rattle.std.specs.Prelude.{◌≡◌, ℕ, ◌<◌, ◌≤◌, false, List, [], ◌∷◌, length, slice_index_or, All, Any}
use Rattle.atomic_table.specs.Seated.{TableId}
use Rattle.za_machine.specs.Machine.{is_in}
use Rattle.za_table.specs.Tables.{Given, TableState}
use Rattle.za_hall.specs.declared.refusal.CloseWhy.{CloseWhy}
use Rattle.za_hall.specs.declared.refusal.CloseWhy.TheVariants.{Missing, NotOver}
use Rattle.za_hall.specs.Views.{View}
use Rattle.za_hall.specs.Rule.{FiredOk, arrivals_of}
use Rattle.za_hall.specs.Steps.{blank_note}
use Rattle.za_hall.specs.Answers.{note_of}

-- a name, which only contracts see, and the job
pub record HallState : Type 0 where
  pub name : TableId
  pub given : Given

-- the name of its hall, its process, and what it knows
pub record DeskState : Type 0 where
  pub name : TableId
  pub number : ℕ
  pub view : View

-- the desk is of the hall
pub record IsOf (d : DeskState) (h : HallState) : Type 0 where
  pub name : d.name ≡ h.name
  pub given : d.view.given ≡ h.given

-- the places of the firings that a desk told of
abbrev pub fired : DeskState → List ℕ
fired d = (note_of d.view).fired

-- the same desk, at some other time
pub record IsSameDesk (d e : DeskState) : Type 0 where
  pub name : e.name ≡ d.name
  pub number : e.number ≡ d.number
  pub given : e.view.given ≡ d.view.given

-- a desk of the hall for the process p, which has done nothing
pub record IsNewDesk (h : HallState) (p : ℕ) (d : DeskState) : Type 0 where
  pub of : IsOf d h
  pub number : d.number ≡ p
  pub notes : d.view.notes ≡ blank_note p ∷ []
  pub over : d.view.over ≡ false

-- the desks of the processes below n, in order
pub record AreDesks (h : HallState) (n : ℕ) (ds : List DeskState) : Type 0 where
  pub size : length ds ≡ n
  pub each : (p : ℕ) (d : DeskState) → p < length ds → IsNewDesk h p (slice_index_or ds p d)

-- what the desk knows of its process is so at the table: its arrivals, its ending, and the places of its events
pub record IsToldBy (t : TableState) (d : DeskState) : Type 0 where
  pub arrivals : (note_of d.view).arrivals ≡ arrivals_of t d.number
  pub ended : (note_of d.view).ended ≡ is_in t.state.ended d.number
  pub fired : FiredOk t d.number (fired d)

-- each process below n has a desk
abbrev pub HasDesks : ℕ → List DeskState → Type 0
HasDesks n ds = (p : ℕ) → p < n → Any (λ d. d.number ≡ p) ds

-- p is the least below n of which P holds
pub record IsLeast (n : ℕ) (P : ℕ → Type 0) (p : ℕ) : Type 0 where
  pub within : p < n
  pub holds : P p
  pub first : (q : ℕ) → q < p → ¬ P q

-- some desk is that of the process p, and has not seen that all is over
abbrev pub IsWaiting : List DeskState → ℕ → Type 0
IsWaiting ds p = Any (λ d. (d.number ≡ p) × (d.view.over ≡ false)) ds

-- why a hall with n processes isn't closed: the least process without a desk, else the least whose desk has not
-- seen that all is over
abbrev pub Refuses : ℕ → List DeskState → CloseWhy → Type 0
Refuses n ds (Missing p) = IsLeast n (λ q. ¬ Any (λ d. d.number ≡ q) ds) p
Refuses n ds (NotOver p) =
    HasDesks n ds × IsWaiting ds p × All (λ d. d.view.over ≡ false → p ≤ d.number) ds

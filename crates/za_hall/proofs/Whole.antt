-- All processes have desks, by the number that the hall keeps.
use Rattle.std.proofs.Common.{◌≡◌, ℕ, ◌<◌, true, List, length, get_or, sym, ap, ◌∙◌, subst, arith}
use Rattle.std.specs.List.{All, Any}
use Rattle.za_machine.specs.Machine.{State, IsOver}
use Rattle.za_table.specs.Tables.{Given, TableState}
use Rattle.za_hall.specs.Places.{places}
use Rattle.za_hall.specs.Own.{machine}
use Rattle.za_hall.specs.Rule.{NoteOk}
use Rattle.za_hall.specs.Answers.{note_of}
use Rattle.za_hall.specs.Halls.{DeskState, HasDesks, IsLeast, IsToldBy, fired}
use Rattle.za_hall.proofs.Closes.{all_fired, told_by}

module _ (k n : ℕ) (is : k ≡ n) (now items : List DeskState) (same : now ≡ items) where
  pub whole : HasDesks k now → HasDesks n items
  whole a = subst (λ (z : ℕ × List DeskState). HasDesks z.0 z.1) (λ i. (is i, same i)) a

  pub least : (p : ℕ) → IsLeast k (λ q. ¬ Any (λ d. d.number ≡ q) now) p → IsLeast n (λ q. ¬ Any (λ d. d.number ≡ q) items) p
  least p a = subst (λ (z : ℕ × List DeskState). IsLeast z.0 (λ q. ¬ Any (λ d. d.number ≡ q) z.1) p) (λ i. (is i, same i)) a

pub some_desk : (n : ℕ) (items : List DeskState) → 0 < n → HasDesks n items → 0 < length items
some_desk n items l all = let a = all 0 l in let h = a.2 in omega arith

pub any_over : (n : ℕ) (items : List DeskState) → 0 < n → HasDesks n items → All (λ d. d.view.over ≡ true) items → Any (λ d. d.view.over ≡ true) items
any_over n items l all over = let a = all 0 l in
    (a.0, a.1, a.2, a.3, ap (λ (d : DeskState). d.view.over) (sym a.3) ∙ over a.0 a.1 a.2)

module _ (t : TableState) (items : List DeskState) (numbers : All (λ d. (note_of d.view).number ≡ d.number) items)
    (notes : All (λ d. NoteOk t (note_of d.view)) items) where
  pub all_told : All (IsToldBy t) items
  all_told k d lt = told_by t (get_or items k d) (numbers k d lt) (notes k d lt)

  pub are_fired : IsOver (machine t) t.state → All (λ d. fired d ≡ places (machine t) d.number t.state.journal) items
  are_fired over k d lt = all_fired t (get_or items k d) over (numbers k d lt) (notes k d lt)

-- the records and the hands tell nothing of it
pub told_still : (t d : TableState) (x : DeskState) → d.given ≡ t.given → d.state ≡ t.state → IsToldBy t x → IsToldBy d x
told_still t d x given state a = let P : Given → State → Type 0 = λ j c. IsToldBy record { given = j; state = c; hands = d.hands; shared = d.shared } x in
    subst (λ (z : Given × State). P z.0 z.1) (λ i. (sym given i, sym state i)) record { arrivals = a.arrivals; ended = a.ended; fired = a.fired }

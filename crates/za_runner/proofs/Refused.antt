-- Closing is not refused where each process has a desk that has seen that all is over.
use Rattle.std.proofs.Common.{◌≡◌, ℕ, ◌<◌, List, [], ◌∷◌, length, true, sym, ap, ◌∙◌, arith}
use Rattle.std.specs.List.{All}
use Rattle.za_alpha.specs.Words.{has}
use Rattle.za_hall.specs.Halls.{DeskState}
use Rattle.za_hall.specs.Halls.{HallState}
use Rattle.za_hall.specs.declared.refusal.CloseWhy.{CloseWhy}
use Rattle.za_hall.specs.declared.refusal.CloseWhy.TheVariants.{Missing, NotOver}
use Rattle.za_hall.specs.Halls.{AreDesks, Refuses}
use Rattle.za_hall.proofs.Letters.{false_true}
use Rattle.za_runner.specs.Private.Lists.{desk_numbers, AreOf}
use Rattle.za_runner.proofs.Moves.{has_found, has_at}

pub never_refused : (n : ℕ) (ds : List DeskState) (why : CloseWhy) → ((p : ℕ) → p < n → has (desk_numbers ds) p ≡ true) → All (λ d. d.view.over ≡ true) ds
    → Refuses n ds why → ⊥
never_refused n ds (Missing p) all over r = r.holds (has_found (λ (d : DeskState). d.number) ds p (all p r.within))
never_refused n ds (NotOver p) all over r = let a = r.1 in
    let o : a.1.view.over ≡ true = ap (λ (d : DeskState). d.view.over) (sym a.3) ∙ over a.0 a.1 a.2 in false_true (sym a.4.1 ∙ o)

pub are_of : (h : HallState) (n : ℕ) (ds : List DeskState) → AreDesks h n ds → AreOf h ds
are_of h n ds a k d l = (a.each k d l).of

some_of : (ds : List DeskState) → 0 < length ds → DeskState
some_of [] l = absurd (omega arith)
some_of (d ∷ ds) l = d

pub all_there : (h : HallState) (n : ℕ) (ds : List DeskState) → AreDesks h n ds → (p : ℕ) → p < n → has (desk_numbers ds) p ≡ true
all_there h n ds a p l = let m : p < length ds = (let e = a.size in omega arith) in let d = some_of ds (omega arith) in has_at
    (λ (x : DeskState). x.number) ds p d p m (a.each p d m).number

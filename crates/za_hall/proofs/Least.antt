-- The least process that waits, over the desks so far.
use Rattle.std.proofs.Common.{◌≡◌, ℕ, zero, suc, ◌+◌, ◌<◌, ◌≤◌, min, Bool, true, false, List, [], ◌∷◌, length, get_or, sym, refl, ◌∙◌, subst, arith, Option}
use Rattle.std.proofs.Common.{Some, None, MatchOption}
use Rattle.std.specs.List.{Any}
use mathlib.Core.Logic.{dite}
use native.Mathlib.Decide.{ℕ_discrete}
use Rattle.za_hall.specs.Private.Serving.{lesser_of}
use Rattle.za_hall.specs.Halls.{DeskState}

same_default : (ds : List DeskState) (i : ℕ) (x y : DeskState) → i < length ds → get_or ds i x ≡ get_or ds i y
same_default [] i x y lt = absurd (omega arith)
same_default (d ∷ ds) zero x y lt = refl
same_default (d ∷ ds) (suc i) x y lt = same_default ds i x y (omega arith)

module _ (ds : List DeskState) (P : DeskState → Type 0) where
  more : (i : ℕ) (x : DeskState) → i < length ds → x ≡ get_or ds i x → ((k : ℕ) (d : DeskState) → k < i → P (get_or ds k d)) → P x → (k : ℕ) (d : DeskState)
      → k < i + 1 → P (get_or ds k d)
  more i x lt is below here k d h = dite (ℕ_discrete k i)
      (λ e. let Q : ℕ → Type 0 = λ j. P (get_or ds j d) in subst Q (sym e) (subst P (is ∙ same_default ds i x d lt) here))
      (λ ne. below k d (omega arith))

abbrev pub Inv : List DeskState → ℕ → Option ℕ → Type 0
Inv ds i least = MatchOption least ((k : ℕ) (d : DeskState) → k < i → (get_or ds k d).view.over ≡ true)
    (λ p. Any (λ d. (d.number ≡ p) × (d.view.over ≡ false)) ds × ((k : ℕ) (d : DeskState) → k < i → (get_or ds k d).view.over ≡ false → p ≤
    (get_or ds k d).number))

pub least_step : (ds : List DeskState) (i : ℕ) (x : DeskState) → i < length ds → x ≡ get_or ds i x → (least : Option ℕ) → Inv ds i least → (b : Bool)
    → x.view.over ≡ b → Inv ds (i + 1) (lesser_of least b x.number)
least_step ds i x lt is None inv true e = more ds (λ d. d.view.over ≡ true) i x lt is inv e
least_step ds i x lt is (Some p) inv true e = (
  inv.0,
  more ds (λ d. d.view.over ≡ false → p ≤ d.number) i x lt is inv.1
      (λ f. let z : true ≡ false = sym e ∙ f in absurd (cc)),
)
least_step ds i x lt is None inv false e = (
  (i, x, lt, sym is, (refl, e)),
  more ds (λ d. d.view.over ≡ false → x.number ≤ d.number) i x lt is
      (λ k d h f. let z : true ≡ false = sym (inv k d h) ∙ f in absurd (cc)) (λ _. omega arith),
)
least_step ds i x lt is (Some p) inv false e = (
  dite (ℕ_discrete (min p x.number) p)
      (λ same. subst (λ (m : ℕ). Any (λ d. (d.number ≡ m) × (d.view.over ≡ false)) ds) (sym same) inv.0)
      (λ ne. (i, x, lt, sym is, (omega arith, e))),
  more ds (λ d. d.view.over ≡ false → min p x.number ≤ d.number) i x lt is (λ k d h f. let l = inv.1 k d h f in omega arith) (λ _. omega arith),
)

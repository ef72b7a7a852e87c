-- Desks that move from one list to another.
use Rattle.std.proofs.Common.{◌≡◌, ◌⊎◌, ℕ, zero, suc, ◌<◌, true, false, ◌==◌, inl, inr, ⊎_elim, List, [], ◌∷◌, ◌++◌, map, length, get_or, set, refl, sym}
use Rattle.std.proofs.Common.{ap, subst, ◌∙◌, arith, eqb-true, eq-eqb, length-append}
use Rattle.std.specs.List.{All, Any}
use Rattle.std.proofs.lemmas.List.Elements.{All-same}
use Rattle.std.proofs.lemmas.Bool.{or_cases, or_left, or_right}
use Rattle.za_alpha.specs.Words.{has}
use Rattle.za_hall.specs.Halls.{HallState, DeskState, IsOf, IsSameDesk}
use Rattle.za_runner.specs.Private.Lists.{desk_numbers}

-- the same desk is of the same hall
pub of_same : (d e : DeskState) (h : HallState) → IsSameDesk d e → IsOf d h → IsOf e h
of_same d e h s of = record { name = s.name ∙ of.name; given = s.given ∙ of.given }

pub numbers_set : (ds : List DeskState) (i : ℕ) (d x : DeskState) → i < length ds → x.number ≡ (get_or ds i d).number →
    desk_numbers (set ds i x) ≡ desk_numbers ds
numbers_set [] i d x l e = absurd (omega arith)
numbers_set (y ∷ ds) zero d x l e = ap (λ (p : ℕ). p ∷ desk_numbers ds) e
numbers_set (y ∷ ds) (suc i) d x l e = ap (λ ps. y.number ∷ ps) (numbers_set ds i d x (omega arith) e)

module _ {X : Type 0} (f : X → ℕ) where
  pub has_left : (xs : List X) (x : X) (p : ℕ) → has (map f xs) p ≡ true → has (map f (xs ++ x ∷ [])) p ≡ true
  has_left [] x p h = cc
  has_left (y ∷ xs) x p h = ⊎_elim (λ e. or_left (f y == p) (has (map f (xs ++ x ∷ [])) p) e)
      (λ e. or_right (f y == p) (has (map f (xs ++ x ∷ [])) p) (has_left xs x p e)) (or_cases (f y == p) (has (map f xs) p) h)

  pub has_last : (xs : List X) (x : X) (p : ℕ) → f x ≡ p → has (map f (xs ++ x ∷ [])) p ≡ true
  has_last [] x p e = or_left (f x == p) false (eq-eqb (f x) p e)
  has_last (y ∷ xs) x p e = or_right (f y == p) (has (map f (xs ++ x ∷ [])) p) (has_last xs x p e)

  pub has_case : (xs : List X) (x : X) (p : ℕ) → has (map f (xs ++ x ∷ [])) p ≡ true → (has (map f xs) p ≡ true) ⊎ (f x ≡ p)
  has_case [] x p h = ⊎_elim (λ e. inr (eqb-true (f x) p e)) (λ e. absurd (cc)) (or_cases (f x == p) false h)
  has_case (y ∷ xs) x p h = ⊎_elim (λ e. inl (or_left (f y == p) (has (map f xs) p) e))
      (λ e. ⊎_elim (λ k. inl (or_right (f y == p) (has (map f xs) p) k)) inr (has_case xs x p e)) (or_cases (f y == p) (has (map f (xs ++ x ∷ [])) p) h)

  pub has_found : (xs : List X) (p : ℕ) → has (map f xs) p ≡ true → Any (λ x. f x ≡ p) xs
  has_found [] p h = absurd (cc)
  has_found (y ∷ xs) p h = ⊎_elim (λ e. (0, y, omega arith, refl, eqb-true (f y) p e)) (λ e. let a = has_found xs p e in
      (suc a.0, a.1, (let l = a.2 in omega arith), a.3, a.4)) (or_cases (f y == p) (has (map f xs) p) h)

  pub has_at : (xs : List X) (i : ℕ) (d : X) (p : ℕ) → i < length xs → f (get_or xs i d) ≡ p → has (map f xs) p ≡ true
  has_at [] i d p l e = absurd (omega arith)
  has_at (y ∷ xs) zero d p l e = or_left (f y == p) (has (map f xs) p) (eq-eqb (f y) p e)
  has_at (y ∷ xs) (suc i) d p l e = or_right (f y == p) (has (map f xs) p) (has_at xs i d p (omega arith) e)

module _ {X : Type 0} (f : X → ℕ) (left : List DeskState) (d : DeskState) (p : ℕ) where
  -- a desk goes from the first list to a list of others
  pub moved : (all : List DeskState) → all ≡ left ++ d ∷ [] → (xs ys : List X) (x : X) → ys ≡ xs ++ x ∷ [] → f x ≡ d.number → has (desk_numbers all) p ≡ true →
      (has (desk_numbers left) p ≡ true) ⊎ (has (map f ys) p ≡ true)
  moved all e xs ys x s same h =
      ⊎_elim inl (λ k. inr (subst (λ zs. has (map f zs) p ≡ true) (sym s) (has_last f xs x p (same ∙ k))))
      (has_case (λ (c : DeskState). c.number) left d p (subst (λ ds. has (desk_numbers ds) p ≡ true) e h))

  pub kept : (xs ys : List X) (x : X) → ys ≡ xs ++ x ∷ [] → has (map f xs) p ≡ true → has (map f ys) p ≡ true
  kept xs ys x s h = subst (λ zs. has (map f zs) p ≡ true) (sym s) (has_left f xs x p h)

pub split_all : {X : Type 0} (P : X → Type 0) (left : List X) (x : X) (all : List X) → all ≡ left ++ x ∷ [] → All P all → All P left × P x
split_all P left x all e a = let b = All-same P (left ++ x ∷ []) all (sym e) a in (
  λ k d l. subst P (front left k d l) (b k d (let z = length-append left (x ∷ []) in omega arith)),
  subst P (last left) (b (length left) x (let z = length-append left (x ∷ []) in omega arith)),
)
  where
    front : (xs : List _) (k : ℕ) (d : _) → k < length xs → get_or (xs ++ x ∷ []) k d ≡ get_or xs k d
    front [] k d l = absurd (omega arith)
    front (y ∷ xs) zero d l = refl
    front (y ∷ xs) (suc k) d l = front xs k d (omega arith)

    last : (xs : List _) → get_or (xs ++ x ∷ []) (length xs) x ≡ x
    last [] = refl
    last (y ∷ xs) = last xs

-- Words that agree at the first places have the same views, entries and labels there.
use Rattle.std.proofs.Common.{◌≡◌, ℕ, zero, suc, ◌<◌, ◌≤◌, Bool, ◌&&◌, inl, inr, List, [], ◌∷◌, ◌++◌, length, slice_index, Option, Some, None, option_and_then}
use Rattle.std.proofs.Common.{refl, sym, ap, subst, ◌∙◌, arith}
use Rattle.std.proofs.lemmas.Bool.{cases_order}
use Rattle.za_alpha.specs.Words.{has}
use Rattle.za_alpha.specs.Search.{least}
use Rattle.za_order.specs.Views.{participants, in_view, in_past}
use Rattle.za_order.specs.Entries.{primary, last_in_past, secondary, tertiary, IsTertiary}
use Rattle.za_alpha.specs.Search.{greatest}
use Rattle.za_order.specs.Labels.{least_participant, label}
use Rattle.za_order.proofs.Participants.{IsOver}
use Rattle.za_order.proofs.Entries.{primary-sound, primary-below, secondary-sound, secondary-below, tertiary-sound, tertiary-below}
use Rattle.za_order.proofs.Labels.{label-free, label-least}

-- tests that agree below n have one greatest number there
pub greatest-same : (s t : ℕ → Bool) (n : ℕ) → ((i : ℕ) → i < n → s i ≡ t i) → greatest s n ≡ greatest t n
greatest-same s t zero h = refl
greatest-same s t (suc n) h = let e = h n (omega arith) in let r = greatest-same s t n (λ i l. h i (omega arith)) in cc

-- a second step that agrees at what the first found
pub then-same : (f g : ℕ → Option ℕ) (o : Option ℕ) → ((e : ℕ) → o ≡ Some e → f e ≡ g e) → option_and_then f o ≡ option_and_then g o
then-same f g None h = refl
then-same f g (Some e) h = h e refl

module _ (who who' : ℕ → List ℕ) where
  -- views after n events look at these alone
  pub view-same : (n : ℕ) (ps : List ℕ) (i : ℕ) → ((j : ℕ) → j < n → who j ≡ who' j) → in_view who n ps i ≡ in_view who' n ps i
  view-same zero ps i h = refl
  view-same (suc n) ps i h =
      let e = h n (omega arith) in
      let a = view-same n (ps ++ who n) i (λ j l. h j (omega arith)) in
      let b = view-same n ps i (λ j l. h j (omega arith)) in cc

  -- so do primary entries
  pub primary-same : (n p q : ℕ) → ((j : ℕ) → j < n → who j ≡ who' j) → primary who n p q ≡ primary who' n p q
  primary-same n p q h =
      greatest-same (λ i. in_view who n (p ∷ []) i && has (who i) q) (λ i. in_view who' n (p ∷ []) i && has (who' i) q) n
      (λ i l. let v = view-same n (p ∷ []) i h in let e = h i l in cc)

  -- and pasts of events among them
  pub past-same : (n e i : ℕ) → e < n → ((j : ℕ) → j < n → who j ≡ who' j) → in_past who e i ≡ in_past who' e i
  past-same n e i l h = let v = view-same (suc e) (who e) i (λ j k. h j (omega arith)) in let s = h e l in cc

  -- and what such an event knows
  pub last-same : (n e r : ℕ) → e < n → ((j : ℕ) → j < n → who j ≡ who' j) → last_in_past who e r ≡ last_in_past who' e r
  last-same n e r l h =
      greatest-same (λ i. in_past who e i && has (who i) r) (λ i. in_past who' e i && has (who' i) r) (suc e)
      (λ i k. let v = past-same n e i l h in let t = h i (omega arith) in cc)

  -- secondary entries
  pub secondary-same : (n p q r : ℕ) → ((j : ℕ) → j < n → who j ≡ who' j) → secondary who n p q r ≡ secondary who' n p q r
  secondary-same n p q r h =
      then-same (λ e. last_in_past who e r) (λ e. last_in_past who' e r) (primary who n p q)
      (λ e k. last-same n e r (primary-below who n p q e (primary-sound who n p q e k)) h)
      ∙ ap (option_and_then (λ e. last_in_past who' e r)) (primary-same n p q h)

  -- tertiary entries
  pub tertiary-same : (n p q r s : ℕ) → ((j : ℕ) → j < n → who j ≡ who' j) → tertiary who n p q r s ≡ tertiary who' n p q r s
  tertiary-same n p q r s h =
      then-same (λ e. last_in_past who e s) (λ e. last_in_past who' e s) (secondary who n p q r)
      (λ e k. last-same n e s (secondary-below who n p q r e (secondary-sound who n p q r e k)) h)
      ∙ ap (option_and_then (λ e. last_in_past who' e s)) (secondary-same n p q r h)

-- u and v are words of the alphabet that agree at the first n places
pub record Agree (loc : ℕ → List ℕ) (letters processes n : ℕ) (u v : List ℕ) : Type 0 where
  pub first : IsOver loc letters processes u
  pub second : IsOver loc letters processes v
  pub in_first : n ≤ length u
  pub in_second : n ≤ length v
  pub same : (j : ℕ) → j < n → slice_index u j ≡ slice_index v j

module _ (loc : ℕ → List ℕ) (letters processes : ℕ) where
  -- a label is below another only if some earlier labels differ
  label-not-less : (n : ℕ) (u v : List ℕ) (i : ℕ) → Agree loc letters processes n u v → i < n →
      ((j : ℕ) → j < i → label loc processes u j ≡ label loc processes v j) → label loc processes u i < label loc processes v i → ⊥
  label-not-less n u v i a l earlier less =
      let letter = a.same i l in
      let x : ℕ = least_participant loc processes u i in
      let y : ℕ = least_participant loc processes v i in
      let xy : x ≡ y = ap (λ b. least (λ p. has (loc b) p) processes) letter in
      let k = label-least loc processes v i (label loc processes u i) less in
      let e : ℕ = k.0 in
      let below = tertiary-below (participants loc v) i y k.1.0 k.1.1 k.1.2 e (tertiary-sound (participants loc v) i y k.1.0 k.1.1 k.1.2 e k.1.3) in
      let t : IsTertiary (participants loc u) i x e =
      subst (λ z. IsTertiary (participants loc u) i z e) (sym xy)
      (k.1.0, k.1.1, k.1.2, tertiary-same (participants loc u) (participants loc v) i y k.1.0 k.1.1 k.1.2 (λ j m. ap loc (a.same j (omega arith))) ∙ k.1.3) in
      label-free loc letters processes u a.first i e (let b = a.in_first in omega arith) t (a.same e (omega arith) ∙ k.2 ∙ sym letter) (earlier e below ∙ k.3)

  -- the labels agree too
  labels-below : (n : ℕ) (u v : List ℕ) (b i : ℕ) → Agree loc letters processes n u v → i < b → b ≤ n → label loc processes u i ≡ label loc processes v i
  labels-below n u v zero i a l m = absurd (omega arith)
  labels-below n u v (suc b) i a l m =
      let earlier : (j : ℕ) → j < i → label loc processes u j ≡ label loc processes v j = λ j k. labels-below n u v b j a (omega arith) (omega arith) in
      let back : Agree loc letters processes n v u =
      record { first = a.second; second = a.first; in_first = a.in_second; in_second = a.in_first; same = λ j k. sym (a.same j k) } in
      elim (cases_order (label loc processes u i) (label loc processes v i)) [
        | inl same ↦ same
        | inr (inl less) ↦ absurd (label-not-less n u v i a (omega arith) earlier less)
        | inr (inr more) ↦ absurd (label-not-less n v u i back (omega arith) (λ j k. sym (earlier j k)) more)
      ]

  -- in short
  pub label-same : (n : ℕ) (u v : List ℕ) (i : ℕ) → Agree loc letters processes n u v → i < n → label loc processes u i ≡ label loc processes v i
  label-same n u v i a l = labels-below n u v n i a l (omega arith)

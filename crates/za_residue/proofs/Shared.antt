-- Entries that stand in a row.
use Rattle.std.proofs.Common.{◌≡◌, ℕ, ◌+◌, ◌<◌, ◌==◌, Bool, true, false, not, ◌&&◌, ◌||◌, inl, inr, List, [], ◌∷◌, length, slice_index, refl, sym, ap, ◌∙◌}
use Rattle.std.proofs.Common.{arith, eq-eqb, ne_eqb}
use Rattle.std.specs.Prelude.{nat_lt}
use Rattle.std.specs.List.{list_any}
use Rattle.std.proofs.lemmas.Bool.{cases_order, or_left, and_from, and_right}
use Rattle.std.proofs.lemmas.Bool.Decides.{nat_tests}
use Rattle.za_alpha.specs.Words.{has}
use Rattle.za_ids.specs.declared.ids.EventId.{EventId}
use Rattle.za_ids.specs.Numbers.{event_numbers}
use Rattle.za_residue.specs.Masks.{is_shared}

-- which numbers a row of numbers of events has
pub has-numbers : (ids : List EventId) (number : ℕ) → has (event_numbers ids) number ≡ list_any (λ (id : EventId). id.0 == number) ids
has-numbers [] number = refl
has-numbers (id ∷ ids) number = ap (λ b. id.0 == number || b) (has-numbers ids number)

module _ (primary other : List ℕ) (s : ℕ) (here : s < length primary) where
  abbrev pub test : Bool
  test = not (slice_index primary s == 0) && has other (slice_index primary s)

  at-place : is_shared primary other s ≡ test
  at-place =
      let low : nat_lt s (length primary) ≡ true = grind (arith, nat_tests) in
      ap (λ b. (b && not (slice_index primary s == 0)) && has other (slice_index primary s)) low

  -- the first s entries, and one more where it is shared
  pub shared-in : (k : ℕ) (before : Bool) → before ≡ (nat_lt k s && is_shared primary other k) → test ≡ true → (k == s || before)
      ≡ (nat_lt k (s + 1) && is_shared primary other k)
  shared-in k before h t =
      ap (λ b. k == s || b) h ∙ elim (cases_order k s) [
        | inl e ↦
            let lt : nat_lt k (s + 1) ≡ true = grind (arith, nat_tests) in
            let all : is_shared primary other k ≡ true = ap (is_shared primary other) e ∙ at-place ∙ t in
            or_left (k == s) (nat_lt k s && is_shared primary other k) (eq-eqb k s e) ∙ sym (and_from (nat_lt k (s + 1)) (is_shared primary other k) lt all)
        | inr (inl lt) ↦
            let a : nat_lt k s ≡ true = grind (arith, nat_tests) in
            let b : nat_lt k (s + 1) ≡ true = grind (arith, nat_tests) in
            ap (λ e. e || (nat_lt k s && is_shared primary other k)) (ne_eqb k s (λ e. absurd (omega arith))) ∙ ap (λ v. v && is_shared primary other k)
            (a ∙ sym b)
        | inr (inr gt) ↦
            let a : nat_lt k s ≡ false = grind (arith, nat_tests) in
            let b : nat_lt k (s + 1) ≡ false = grind (arith, nat_tests) in
            ap (λ e. e || (nat_lt k s && is_shared primary other k)) (ne_eqb k s (λ e. absurd (omega arith))) ∙ ap (λ v. v && is_shared primary other k)
            (a ∙ sym b)
      ]

  -- and where it is not
  pub shared-out : (k : ℕ) (before : Bool) → before ≡ (nat_lt k s && is_shared primary other k) → test ≡ false → before
      ≡ (nat_lt k (s + 1) && is_shared primary other k)
  shared-out k before h t =
      h ∙ elim (cases_order k s) [
        | inl e ↦
            let none : is_shared primary other k ≡ false = ap (is_shared primary other) e ∙ at-place ∙ t in
            and_right (nat_lt k s) (is_shared primary other k) none ∙ sym (and_right (nat_lt k (s + 1)) (is_shared primary other k) none)
        | inr (inl lt) ↦
            let a : nat_lt k s ≡ true = grind (arith, nat_tests) in
            let b : nat_lt k (s + 1) ≡ true = grind (arith, nat_tests) in
            ap (λ v. v && is_shared primary other k) (a ∙ sym b)
        | inr (inr gt) ↦
            let a : nat_lt k s ≡ false = grind (arith, nat_tests) in
            let b : nat_lt k (s + 1) ≡ false = grind (arith, nat_tests) in
            ap (λ v. v && is_shared primary other k) (a ∙ sym b)
      ]

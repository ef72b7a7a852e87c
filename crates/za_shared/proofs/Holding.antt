-- How many of some processes hold a key.
use Rattle.std.proofs.Common.{◌≡◌, ℕ, zero, suc, ◌+◌, ◌<◌, ◌≤◌, ◌==◌, not, Bool, true, false, cond, List, [], ◌∷◌, ◌++◌, length, take, slice_index, refl, sym}
use Rattle.std.proofs.Common.{ap}
use Rattle.std.proofs.Common.{◌∙◌, arith, inl, inr, eq-eqb}
use Rattle.std.specs.Prelude.{count_by}
use Rattle.std.proofs.lemmas.Bool.{cases_Bool, cases_eq, cond-true, cond-false}
use Rattle.std.proofs.lemmas.List.{append-nil, take_all}
use Rattle.std.proofs.lemmas.List.Sums.{sum_by_push, sum_by_more, sum_by-take-le}
use Rattle.za_alpha.specs.declared.procs.Procs.{Procs}
use Rattle.za_alpha.specs.Words.{has}
use Rattle.za_alpha.specs.Procs.{members, members_below}
use Rattle.za_alpha.proofs.Members.{members_below-zero, members_below-more}
use Rattle.za_order.proofs.Rising.{members-fit}
use Rattle.za_shared.specs.Private.Steps.{one, held_by}

module _ (keys : List ℕ) (s : Procs) (k : ℕ) where
  abbrev weight : ℕ → ℕ
  weight p = cond {A = ℕ} (slice_index keys p == k) 1 0

  pub held-none : held_by keys (members_below s 0) k ≡ 0
  held-none = ap (λ ps. held_by keys ps k) (members_below-zero s)

  -- one process more is looked at
  pub held-in : (n : ℕ) → n < 16 → has (members s) n ≡ true → held_by keys (members_below s (n + 1)) k ≡ held_by keys (members_below s n) k + one
      (slice_index keys n) k
  held-in n l h =
      ap (λ ps. held_by keys ps k) (members_below-more s n l ∙ ap (λ xs. members_below s n ++ xs) (cond-true (has (members s) n) (n ∷ []) [] h))
      ∙ sum_by_push weight (members_below s n) n

  pub held-out : (n : ℕ) → n < 16 → has (members s) n ≡ false → held_by keys (members_below s (n + 1)) k ≡ held_by keys (members_below s n) k
  held-out n l h =
      ap (λ ps. held_by keys ps k)
      (members_below-more s n l ∙ ap (λ xs. members_below s n ++ xs) (cond-false (has (members s) n) (n ∷ []) [] h) ∙ append-nil (members_below s n))

  -- how many of the other processes below n hold it
  abbrev others : ℕ → ℕ
  others zero = 0
  others (suc n) = others n + cond (not (has (members s) n)) (one (slice_index keys n) k) 0

  split : (n : ℕ) → n ≤ 16 → n ≤ length keys → held_by keys (members_below s n) k + others n ≡ count_by (λ x. x == k) (take n keys)
  split zero l m = let h = held-none in let y : others 0 ≡ 0 = refl in let z : count_by (λ (x : ℕ). x == k) [] ≡ 0 = refl in omega arith
  split (suc n) l m =
      let h = split n (omega arith) (omega arith) in
      let on : n + 1 ≡ suc n = omega arith in
      let y : others (suc n) ≡ others n + cond (not (has (members s) n)) (one (slice_index keys n) k) 0 = refl in
      let more = ap (λ j. count_by (λ (x : ℕ). x == k) (take j keys)) (sym on) ∙ sum_by_more (λ (x : ℕ). cond {A = ℕ} (x == k) 1 0) keys n 0 (omega arith) in
      let step = ap (λ j. held_by keys (members_below s j) k) (sym on) in
      elim (cases_Bool (has (members s) n)) [
        | inl t ↦
            let a = held-in n (omega arith) t in
            let o = cond-false {A = ℕ} (not (has (members s) n)) (one (slice_index keys n) k) 0 (ap not t) in omega arith
        | inr f ↦
            let a = held-out n (omega arith) f in
            let o = cond-true {A = ℕ} (not (has (members s) n)) (one (slice_index keys n) k) 0 (ap not f) in omega arith
      ]

  -- another one below n holds it
  other : (n p : ℕ) → p < n → has (members s) p ≡ false → slice_index keys p ≡ k → 0 < others n
  other zero p l h e = absurd (omega arith)
  other (suc n) p l h e = elim (cases_eq p n) [
    | inl is ↦
        let y : others (suc n) ≡ others n + cond (not (has (members s) n)) (one (slice_index keys n) k) 0 = refl in
        let o = cond-true {A = ℕ} (not (has (members s) n)) (one (slice_index keys n) k) 0 (ap not (sym (ap (has (members s)) is) ∙ h)) in
        let one' = cond-true {A = ℕ} (slice_index keys n == k) 1 0 (eq-eqb (slice_index keys n) k (sym (ap (slice_index keys) is) ∙ e)) in omega arith
    | inr ne ↦
        let y : others (suc n) ≡ others n + cond (not (has (members s) n)) (one (slice_index keys n) k) 0 = refl in
        let r = other n p (omega arith) h e in omega arith
  ]

  -- those that were looked at are no more than hold the key
  pub held-le : (n : ℕ) → n ≤ 16 → n ≤ length keys → held_by keys (members_below s n) k ≤ count_by (λ x. x == k) keys
  held-le n l m = let a = split n l m in let b = sum_by-take-le (λ (x : ℕ). cond {A = ℕ} (x == k) 1 0) keys n in omega arith

  module _ (few : length keys ≤ 16) (within : (p : ℕ) → has (members s) p ≡ true → p < length keys) where
    whole : held_by keys (members s) k + others (length keys) ≡ count_by (λ x. x == k) keys
    whole = ap (λ ps. held_by keys ps k + others (length keys)) (sym (members-fit s (length keys) few within)) ∙ split (length keys) few (omega arith)
        ∙ ap (count_by (λ (x : ℕ). x == k)) (take_all (length keys) keys (omega arith))

    pub held-all : held_by keys (members s) k ≤ count_by (λ x. x == k) keys
    held-all = let a = whole in omega arith

    pub held-less : (p : ℕ) → p < length keys → has (members s) p ≡ false → slice_index keys p ≡ k → held_by keys (members s) k < count_by (λ x. x == k) keys
    held-less p l h e = let a = whole in let b = other (length keys) p l h e in omega arith

-- so many holders more
pub cond-more : (b : Bool) (n : ℕ) → cond b (n + 1) 0 ≡ cond b n 0 + cond b 1 0
cond-more true n = refl
cond-more false n = refl

pub cond-none : (b : Bool) → cond {A = ℕ} b 0 0 ≡ 0
cond-none true = refl
cond-none false = refl

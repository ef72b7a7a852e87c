-- Rows of sets that are written.
use Rattle.std.proofs.Common.{◌≡◌, ℕ, ◌+◌, ◌<◌, Bool, inl, inr, List, [], length, get_or, slice_set, sym, ap, ◌∙◌, arith}
use Rattle.std.proofs.lemmas.Bool.{cases_eq}
use Rattle.std.proofs.lemmas.List.{get_or-set_same, get_or-set_other}
use Rattle.za_alpha.specs.declared.procs.Procs.{Procs}
use Rattle.za_alpha.specs.Words.{has}
use Rattle.za_alpha.specs.Procs.{members, no_process}

-- one set more
pub sets-more : (want : ℕ → ℕ → Bool) (i : ℕ) (sets : List Procs) (more : Procs) → i < length sets →
    ((k s : ℕ) → k < i → has (members (get_or sets k no_process)) s ≡ want k s) → ((s : ℕ) → has (members more) s ≡ want i s) →
    (k s : ℕ) → k < i + 1 → has (members (get_or (slice_set sets i more) k no_process)) s ≡ want k s
sets-more want i sets more l before here k s lk =
    let after = λ (k : ℕ). has (members (get_or (slice_set sets i more) k no_process)) s in
    elim (cases_eq k i) [
      | inl e ↦ ap after e ∙ ap (λ o. has (members o) s) (get_or-set_same sets i more no_process l) ∙ here s ∙ ap (λ k. want k s) (sym e)
      | inr ne ↦ ap (λ o. has (members o) s) (get_or-set_other sets i k more no_process ne) ∙ before k s (omega arith)
    ]

-- one row of sets more
pub rows-more : (want : ℕ → ℕ → ℕ → Bool) (n i : ℕ) (rows : List (List Procs)) (more : List Procs) → i < length rows →
    ((k r s : ℕ) → k < i → r < n → has (members (get_or (get_or rows k []) r no_process)) s ≡ want k r s) →
    ((r s : ℕ) → r < n → has (members (get_or more r no_process)) s ≡ want i r s) →
    (k r s : ℕ) → k < i + 1 → r < n → has (members (get_or (get_or (slice_set rows i more) k []) r no_process)) s ≡ want k r s
rows-more want n i rows more l before here k r s lk lr =
    let after = λ (k : ℕ). has (members (get_or (get_or (slice_set rows i more) k []) r no_process)) s in
    elim (cases_eq k i) [
      | inl e ↦ ap after e ∙ ap (λ row. has (members (get_or row r no_process)) s) (get_or-set_same rows i more [] l) ∙ here r s lr
          ∙ ap (λ k. want k r s) (sym e)
      | inr ne ↦ ap (λ row. has (members (get_or row r no_process)) s) (get_or-set_other rows i k more [] ne) ∙ before k r s (omega arith) lr
    ]

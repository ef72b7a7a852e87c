use Rattle.std.proofs.Common.{◌≡◌, ℕ, ◌^◌, ◌<◌, ◌≤◌, true, false, not, length, get_or, suc, inl, inr, sym, ap, subst, ◌∙◌, arith}
use Rattle.std.proofs.lemmas.Bool.{cases_lt, not-true, not-false}
use Rattle.std.proofs.lemmas.List.{length-map}
use Rattle.za_alpha.specs.Words.{has}
use Rattle.za_alpha.proofs.Least.{least-true, least-below}
use Rattle.za_order.specs.Labels.{number_of}
use Rattle.za_ids.specs.declared.ids.EventId.{EventId}
use Rattle.za_ids.specs.Numbers.{event_numbers}
use Rattle.za_ids.proofs.Numbers.{labels-fill}
use Rattle.za_ids.proofs.labels.least_free.Goals as goal
use Rattle.za_ids.proofs.labels.least_free.Goals.{After-first_unmarked}

-- the labels below the first that is not marked are taken
taken-below : (c : After-first_unmarked) (k : ℕ) → k < c.first_unmarked.result → k ≤ c.args.n ^ 3 →
    has (event_numbers c.args.ids.now) (number_of c.args.n c.args.a.0 k) ≡ true
taken-below c k l h =
    let marked = λ (j : ℕ). get_or c.as_slice.result.now j false in
    let value = c.first_unmarked.ensures.value in
    sym (c.mark_labels.ensures.marks k h) ∙ sym (ap (λ m. get_or m k false) c.as_slice.ensures)
    ∙ not-false (marked k) (least-below (λ j. not (marked j)) (length c.as_slice.result.now) k (omega arith))

-- if all were, there would be more numbers than there are
pub returns-clause-bounded : goal.returns-clause-bounded
returns-clause-bounded c =
    elim (cases_lt (c.args.n ^ 3) c.first_unmarked.result) [
      | inl more ↦
          let few = c.requires.few_numbers in
          let long = length-map c.args.ids.now (λ (id : EventId). id.0) in
          let fill = labels-fill c.args.n c.args.a.0 (suc (c.args.n ^ 3)) (event_numbers c.args.ids.now) (λ k l. taken-below c k (omega arith) (omega arith)) in
          absurd (omega arith)
      | inr le ↦ le
    ]

pub returns-clause-free : goal.returns-clause-free
returns-clause-free c =
    let b = returns-clause-bounded c in
    let room = c.mark_labels.ensures.room in
    let long = ap length c.as_slice.ensures in
    let marked = λ (j : ℕ). get_or c.as_slice.result.now j false in
    let value = c.first_unmarked.ensures.value in
    sym (c.mark_labels.ensures.marks c.first_unmarked.result b) ∙ sym (ap (λ m. get_or m c.first_unmarked.result false) c.as_slice.ensures)
    ∙ not-true (marked c.first_unmarked.result)
    (subst (λ j. not (marked j) ≡ true) (sym value) (least-true (λ j. not (marked j)) (length c.as_slice.result.now) (omega arith)))

pub returns-clause-least : goal.returns-clause-least
returns-clause-least c = let b = returns-clause-bounded c in λ k l. taken-below c k l (omega arith)

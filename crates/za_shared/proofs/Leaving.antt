-- One holder fewer of each of a list of records.
use Rattle.std.proofs.Common.{◌≡◌, ℕ, ◌+◌, ◌<◌, ◌==◌, true, cond, List, [], length, take, slice_index, refl, ap, ◌∙◌, arith, eq-eqb}
use Rattle.std.specs.Prelude.{count_by}
use Rattle.std.proofs.lemmas.Bool.{cond-true}
use Rattle.std.proofs.lemmas.List.{take_all}
use Rattle.std.proofs.lemmas.List.Sums.{sum_by_more, sum_by-take-le}
use Rattle.za_alpha.specs.Words.{has}
use Rattle.za_order.proofs.Rising.{has-place}
use Rattle.za_local.specs.Locals.{LocalState}
use Rattle.za_records.specs.Shelf.{Shelf, count}
use Rattle.za_shared.specs.Private.Steps.{one, HaveMore}

pub left-none : (s : Shelf LocalState) (keys : List ℕ) → HaveMore s s (λ k. count_by (λ x. x == k) (take 0 keys))
left-none s keys = record {
  counts = λ k. let z : count_by (λ (x : ℕ). x == k) [] ≡ 0 = refl in omega arith;
  values = λ k. refl;
  live = refl;
  capacity = refl;
}

module _ (keys : List ℕ) (i : ℕ) (l : i < length keys) where
  next : (k : ℕ) → count_by (λ x. x == k) (take (i + 1) keys) ≡ count_by (λ x. x == k) (take i keys) + one (slice_index keys i) k
  next k = sum_by_more (λ (x : ℕ). cond {A = ℕ} (x == k) 1 0) keys i 0 l

  pub left-step : (s t u : Shelf LocalState) → HaveMore t s (λ k. count_by (λ x. x == k) (take i keys)) → HaveMore u t (one (slice_index keys i)) →
      HaveMore u s (λ k. count_by (λ x. x == k) (take (i + 1) keys))
  left-step s t u a b = record {
    counts = λ k. let c = a.counts k in let d = b.counts k in let e = next k in omega arith;
    values = λ k. a.values k ∙ b.values k;
    live = a.live ∙ b.live;
    capacity = a.capacity ∙ b.capacity;
  }

  -- the next one has another holder still
  pub left-some : (s t : Shelf LocalState) → ((k : ℕ) → has keys k ≡ true → count_by (λ x. x == k) keys < count s k) →
      HaveMore t s (λ k. count_by (λ x. x == k) (take i keys)) → 1 < count t (slice_index keys i)
  left-some s t h a =
      let k : ℕ = slice_index keys i in
      let b = h k (has-place keys i l) in
      let c = a.counts k in
      let d = next k in
      let e = sum_by-take-le (λ (x : ℕ). cond {A = ℕ} (x == k) 1 0) keys (i + 1) in
      let o = cond-true {A = ℕ} (k == k) 1 0 (eq-eqb k k refl) in omega arith

pub left-all : (keys : List ℕ) (i : ℕ) (s t : Shelf LocalState) → i ≡ length keys → HaveMore t s (λ k. count_by (λ x. x == k) (take i keys)) →
    HaveMore t s (λ k. count_by (λ x. x == k) keys)
left-all keys i s t e h = record {
  counts = λ k. h.counts k ∙ ap (λ xs. count t k + count_by (λ (x : ℕ). x == k) xs) (take_all i keys (omega arith));
  values = h.values;
  live = h.live;
  capacity = h.capacity;
}

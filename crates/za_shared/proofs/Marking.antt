-- Marks stay right while keys only die, and where a key gets its value's mark.
use Rattle.std.proofs.Common.{◌≡◌, ◌≢◌, ℕ, ◌<◌, List, Some, sym, ap, ◌∙◌, inl, inr, arith, get_or-set_same, get_or-set_other}
use Rattle.std.specs.List.{slice_get, slice_set}
use Rattle.std.proofs.lemmas.Bool.{cases_eq}
use Rattle.std.proofs.lemmas.Option.{slice_get-get_or, slice_get_within}
use Rattle.std.proofs.lemmas.List.{length-set}
use Rattle.za_local.specs.Locals.{LocalState}
use Rattle.za_records.specs.Shelf.{Shelf, count}
use Rattle.za_shared.specs.Holders.{value}
use Rattle.za_shared.specs.Marks.{mark, AreMarked, with_mark}

pub marked-on : (s t : Shelf LocalState) (marks : List ℕ) → ((k : ℕ) → 0 < count t k → 0 < count s k) →
    ((k : ℕ) → 0 < count t k → value t k ≡ value s k) → AreMarked s marks → AreMarked t marks
marked-on s t marks old same h = λ k m some is. h k m (old k some) is ∙ ap mark (sym (same k some))

-- what stands at a place that was written
got-set : (xs : List ℕ) (i x m : ℕ) → slice_get (slice_set xs i x) i ≡ Some m → m ≡ x
got-set xs i x m h =
    let l = slice_get_within (slice_set xs i x) i m h in
    let size = length-set xs i x in
    let a = slice_get-get_or (slice_set xs i x) i 0 l in
    let b = get_or-set_same xs i x 0 (omega arith) in
    let c : Some m ≡ Some x = sym h ∙ a ∙ ap Some b in cc

-- and at another one
got-other : (xs : List ℕ) (i k x m : ℕ) → k ≢ i → slice_get (slice_set xs i x) k ≡ Some m → slice_get xs k ≡ Some m
got-other xs i k x m n h =
    let l = slice_get_within (slice_set xs i x) k m h in
    let size = length-set xs i x in
    let a = slice_get-get_or (slice_set xs i x) k 0 l in
    let b = get_or-set_other xs i k x 0 n in
    slice_get-get_or xs k 0 (omega arith) ∙ ap Some (sym b) ∙ sym a ∙ h

module _ (s t : Shelf LocalState) (marks : List ℕ) (key : ℕ) (v : LocalState) (is : value t key ≡ v)
    (old : (k : ℕ) → k ≢ key → 0 < count t k → 0 < count s k) (same : (k : ℕ) → k ≢ key → value t k ≡ value s k) where
  pub marked-more : AreMarked s marks → AreMarked t (with_mark marks key (mark v))
  marked-more h = λ k m some got. elim (cases_eq k key) [
    | inl e ↦ got-set marks key (mark v) m (ap (slice_get (with_mark marks key (mark v))) (sym e) ∙ got) ∙ ap mark (sym is ∙ ap (value t) (sym e))
    | inr n ↦ h k m (old k n some) (got-other marks key k (mark v) m n got) ∙ ap mark (sym (same k n))
  ]

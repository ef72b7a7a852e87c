-- What a line names, input by input.
use Rattle.std.proofs.Common.{◌≡◌, ◌≢◌, ℕ, zero, suc, ◌+◌, ◌<◌, ◌≤◌, ◌==◌, ◌||◌, ◌&&◌, not, Bool, true, false, cond, List, [], ◌∷◌, length, take, add-one}
use Rattle.std.proofs.Common.{slice_index, refl, sym, ap, subst, ◌∙◌, arith, inl, inr, eqb-true, eq-eqb}
use Rattle.std.proofs.lemmas.Bool.{cases_Bool, cases_eq, or_left, or_right}
use Rattle.std.specs.Prelude.{MatchBool}
use Rattle.za_alpha.specs.Words.{has}
use Rattle.za_records.specs.Shelf.{Shelf}
use Rattle.za_local.specs.Locals.{LocalState}
use Rattle.za_shared.specs.Private.Steps.{one, named_by_line, named_before, HaveMore, HaveFewer}

has-next : (xs : List ℕ) (i k : ℕ) → i < length xs → has (take (suc i) xs) k ≡ (has (take i xs) k || (slice_index xs i == k))
has-next [] i k l = absurd (omega arith)
has-next (x ∷ xs) zero k l = go (x == k)
  where
    go : (b : Bool) → (b || false) ≡ (false || b)
    go true = refl
    go false = refl
has-next (x ∷ xs) (suc i) k l = ap (λ b. (x == k) || b) (has-next xs i k (omega arith)) ∙ go (x == k) (has (take i xs) k) (slice_index xs i == k)
  where
    go : (a b c : Bool) → (a || (b || c)) ≡ ((a || b) || c)
    go true b c = refl
    go false b c = refl

has-step : (xs : List ℕ) (i k : ℕ) → i < length xs → has (take (i + 1) xs) k ≡ (has (take i xs) k || (slice_index xs i == k))
has-step xs i k l = ap (λ (n : ℕ). has (take n xs) k) (add-one i) ∙ has-next xs i k l

has-whole : (xs : List ℕ) (k : ℕ) → has (take (length xs) xs) k ≡ has xs k
has-whole [] k = refl
has-whole (x ∷ xs) k = ap (λ b. (x == k) || b) (has-whole xs k)

module _ (inputs : List ℕ) (output i : ℕ) (l : i < length inputs) where
  -- the input at i is new, and is not the output
  pub named-new : has (take i inputs) (slice_index inputs i) ≡ false → slice_index inputs i ≢ output → (k : ℕ) →
      named_before inputs output (i + 1) k ≡ named_before inputs output i k + one (slice_index inputs i) k
  named-new f n k =
      let x : ℕ = slice_index inputs i in
      let s = ap (λ b. cond {A = ℕ} (b && not (output == k)) 1 0) (has-step inputs i k l) in
      elim (cases_eq x k) [
        | inl e ↦
            let h : has (take i inputs) k ≡ false = subst (λ (y : ℕ). has (take i inputs) y ≡ false) e f in
            let o : (output == k) ≡ false = elim (cases_Bool (output == k)) [ inl t ↦ absurd (n (e ∙ sym (eqb-true output k t))) | inr g ↦ g ] in
            let y : (x == k) ≡ true = eq-eqb x k e in
            let a : named_before inputs output i k ≡ 0 = ap (λ b. cond {A = ℕ} (b && not (output == k)) 1 0) h in
            let b : cond {A = ℕ} ((has (take i inputs) k || (x == k)) && not (output == k)) 1 0 ≡ 1 = ap
            (λ u. cond {A = ℕ} ((u || (x == k)) && not (output == k)) 1 0) h ∙ ap (λ u. cond {A = ℕ} (u && not (output == k)) 1 0) y
            ∙ ap (λ u. cond {A = ℕ} (not u) 1 0) o in
            let c = ap (λ u. cond {A = ℕ} u 1 0) y in omega arith
        | inr m ↦
            let y : (x == k) ≡ false = elim (cases_Bool (x == k)) [ inl t ↦ absurd (m (eqb-true x k t)) | inr g ↦ g ] in
            let b : cond {A = ℕ} ((has (take i inputs) k || (x == k)) && not (output == k)) 1 0 ≡ named_before inputs output i k = ap
            (λ u. cond {A = ℕ} ((has (take i inputs) k || u) && not (output == k)) 1 0) y
            ∙ ap (λ u. cond {A = ℕ} (u && not (output == k)) 1 0) (or-false (has (take i inputs) k)) in
            let c = ap (λ u. cond {A = ℕ} u 1 0) y in omega arith
      ]
    where
      or-false : (b : Bool) → (b || false) ≡ b
      or-false true = refl
      or-false false = refl

  -- it is not
  pub named-old : has (take i inputs) (slice_index inputs i) ≡ true → (k : ℕ) → named_before inputs output (i + 1) k ≡ named_before inputs output i k
  named-old t k =
      let x : ℕ = slice_index inputs i in
      ap (λ b. cond {A = ℕ} (b && not (output == k)) 1 0) (has-step inputs i k l) ∙ elim (cases_eq x k) [
        | inl e ↦
            let h : has (take i inputs) k ≡ true = subst (λ (y : ℕ). has (take i inputs) y ≡ true) e t in
            ap (λ u. cond {A = ℕ} ((u || (x == k)) && not (output == k)) 1 0) h ∙ sym (ap (λ u. cond {A = ℕ} (u && not (output == k)) 1 0) h)
        | inr m ↦
            let y : (x == k) ≡ false = elim (cases_Bool (x == k)) [ inl u ↦ absurd (m (eqb-true x k u)) | inr g ↦ g ] in
            ap (λ u. cond {A = ℕ} ((has (take i inputs) k || u) && not (output == k)) 1 0) y
            ∙ ap (λ u. cond {A = ℕ} (u && not (output == k)) 1 0) (or-false (has (take i inputs) k))
      ]
    where
      or-false : (b : Bool) → (b || false) ≡ b
      or-false true = refl
      or-false false = refl

  pub named-output : slice_index inputs i ≡ output → (k : ℕ) → named_before inputs output (i + 1) k ≡ named_before inputs output i k
  named-output e k =
      let x : ℕ = slice_index inputs i in
      ap (λ b. cond {A = ℕ} (b && not (output == k)) 1 0) (has-step inputs i k l) ∙ elim (cases_Bool (x == k)) [
        | inl t ↦
            let o : (output == k) ≡ true = eq-eqb output k (sym e ∙ eqb-true x k t) in
            ap (λ u. cond {A = ℕ} ((has (take i inputs) k || (x == k)) && not u) 1 0) o ∙ off (has (take i inputs) k || (x == k))
            ∙ sym (off (has (take i inputs) k)) ∙ sym (ap (λ u. cond {A = ℕ} (has (take i inputs) k && not u) 1 0) o)
        | inr y ↦ ap (λ u. cond {A = ℕ} ((has (take i inputs) k || u) && not (output == k)) 1 0) y
            ∙ ap (λ u. cond {A = ℕ} (u && not (output == k)) 1 0) (or-false (has (take i inputs) k))
      ]
    where
      or-false : (b : Bool) → (b || false) ≡ b
      or-false true = refl
      or-false false = refl

      off : (b : Bool) → cond {A = ℕ} (b && false) 1 0 ≡ 0
      off true = refl
      off false = refl

  pub has-here : has inputs (slice_index inputs i) ≡ true
  has-here = at inputs i l
    where
      at : (xs : List ℕ) (j : ℕ) → j < length xs → has xs (slice_index xs j) ≡ true
      at [] j m = absurd (omega arith)
      at (x ∷ xs) zero m = or_left (x == x) (has xs x) (eq-eqb x x refl)
      at (x ∷ xs) (suc j) m = or_right (x == slice_index xs j) (has xs (slice_index xs j)) (at xs j (omega arith))

  pub not-yet : has (take i inputs) (slice_index inputs i) ≡ false → named_before inputs output i (slice_index inputs i) ≡ 0
  not-yet f = ap (λ u. cond {A = ℕ} (u && not (output == slice_index inputs i)) 1 0) f

-- all inputs, and then the output
pub named-all : (inputs : List ℕ) (output k : ℕ) → named_by_line inputs output k ≡ named_before inputs output (length inputs) k + one output k
named-all inputs output k = sym (ap (λ u. cond {A = ℕ} (u && not (output == k)) 1 0 + one output k) (has-whole inputs k) ∙ go (has inputs k) (output == k))
  where
    go : (h o : Bool) → cond {A = ℕ} (h && not o) 1 0 + cond {A = ℕ} o 1 0 ≡ cond {A = ℕ} (o || h) 1 0
    go true true = refl
    go true false = refl
    go false true = refl
    go false false = refl

pub output-not-yet : (inputs : List ℕ) (output i : ℕ) → named_before inputs output i output ≡ 0
output-not-yet inputs output i = ap (λ u. cond {A = ℕ} (has (take i inputs) output && not u) 1 0) (eq-eqb output output refl) ∙ off (has (take i inputs) output)
  where
    off : (b : Bool) → cond {A = ℕ} (b && false) 1 0 ≡ 0
    off true = refl
    off false = refl

pub named-at-most : (inputs : List ℕ) (output i k : ℕ) → named_before inputs output i k ≤ 1
named-at-most inputs output i k = go (has (take i inputs) k && not (output == k))
  where
    go : (b : Bool) → cond {A = ℕ} b 1 0 ≤ 1
    go true = omega arith
    go false = omega arith

pub match-true : (b : Bool) (P Q : Type 0) → MatchBool b P Q → b ≡ true → P
match-true true P Q m e = m
match-true false P Q m e = cc

pub match-false : (b : Bool) (P Q : Type 0) → MatchBool b P Q → b ≡ false → Q
match-false true P Q m e = cc
match-false false P Q m e = m

-- steps one after the other
pub more-then : (r s t : Shelf LocalState) (f g h : ℕ → ℕ) → HaveMore r s f → HaveMore s t g → ((k : ℕ) → h k ≡ f k + g k) → HaveMore r t h
more-then r s t f g h a b e = record {
  counts = λ k. let x = a.counts k in let y = b.counts k in let z = e k in omega arith;
  values = λ k. b.values k ∙ a.values k;
  live = b.live ∙ a.live;
  capacity = b.capacity ∙ a.capacity;
}

pub more-same : (r s : Shelf LocalState) (f g : ℕ → ℕ) → HaveMore r s f → ((k : ℕ) → g k ≡ f k) → HaveMore r s g
more-same r s f g a e = record { counts = λ k. let x = a.counts k in let z = e k in omega arith; values = a.values; live = a.live; capacity = a.capacity }

pub more-none : (r : Shelf LocalState) (f : ℕ → ℕ) → ((k : ℕ) → f k ≡ 0) → HaveMore r r f
more-none r f e = record { counts = λ k. let z = e k in omega arith; values = λ k. refl; live = refl; capacity = refl }

pub fewer-then : (r s t : Shelf LocalState) (x y z : List LocalState) (f g h : ℕ → ℕ) → HaveFewer r s x y f → HaveFewer s t y z g →
    ((k : ℕ) → h k ≡ f k + g k) → HaveFewer r t x z h
fewer-then r s t x y z f g h a b e = record {
  counts = λ k. let u = a.counts k in let v = b.counts k in let w = e k in omega arith;
  values = λ k some. b.values k some ∙ a.values k (let v = b.counts k in omega arith);
  whole = let u = a.whole in let v = b.whole in omega arith;
  capacity = b.capacity ∙ a.capacity;
  shaped = λ n m all given. b.shaped n m
      (λ k some. subst (Rattle.za_local.specs.Locals.HasShape n m) (sym (a.values k some)) (all k (let u = a.counts k in omega arith)))
      (a.shaped n m all given);
}

pub fewer-same : (r s : Shelf LocalState) (x y : List LocalState) (f g : ℕ → ℕ) → HaveFewer r s x y f → ((k : ℕ) → g k ≡ f k) → HaveFewer r s x y g
fewer-same r s x y f g a e = record {
  counts = λ k. let u = a.counts k in let z = e k in omega arith;
  values = a.values;
  whole = a.whole;
  capacity = a.capacity;
  shaped = a.shaped;
}

pub fewer-none : (r : Shelf LocalState) (x : List LocalState) (f : ℕ → ℕ) → ((k : ℕ) → f k ≡ 0) → HaveFewer r r x x f
fewer-none r x f e = record { counts = λ k. let z = e k in omega arith; values = λ k some. refl; whole = refl; capacity = refl; shaped = λ n m all h. h }

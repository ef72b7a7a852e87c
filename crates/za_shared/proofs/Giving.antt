-- What handing out a key does.
use Rattle.std.proofs.Common.{◌≡◌, ◌≢◌, ℕ, ◌+◌, ◌<◌, ◌≤◌, ◌==◌, ◌&&◌, true, false, cond, nat_lt, List, length, set, slice_index, sym, ap, subst, ◌∙◌, arith}
use Rattle.std.proofs.Common.{inl, inr, get_or-set_same, get_or-set_other}
use Rattle.std.specs.Prelude.{count_by}
use Rattle.std.proofs.lemmas.Bool.{cases_eq, cases_lt, cond-true, cond-false, lt-ltb, le-ltb}
use Rattle.std.proofs.lemmas.List.Sums.{sum_by-set}
use Rattle.za_alpha.specs.Words.{has}
use Rattle.za_records.specs.Shelf.{Shelf, count}
use Rattle.za_local.specs.Locals.{LocalState, HasShape}
use Rattle.za_shared.specs.Private.Steps.{one, key_given, HaveMore, HaveFewer, HaveChanged}
use Rattle.za_shared.proofs.Shelves.{one-other}

pub count-set : (k : ℕ) (keys : List ℕ) (p v : ℕ) → p < length keys →
    count_by (λ x. x == k) (set keys p v) + one (slice_index keys p) k ≡ count_by (λ x. x == k) keys + one v k
count-set k keys p v l = let e = sum_by-set (λ (x : ℕ). cond {A = ℕ} (x == k) 1 0) keys p v 0 l in omega arith

-- nobody has it at first
pub given-none : (ps : List ℕ) (key : ℕ) (keys : List ℕ) (q : ℕ) → slice_index keys q ≡ key_given ps key 0 keys q
given-none ps key keys q = sym (cond-false (nat_lt q 0 && has ps q) key (slice_index keys q) (ap (λ b. b && has ps q) (le-ltb q 0 (omega arith))))

-- none of them stands between a start and p
pub given-skip : (ps : List ℕ) (key : ℕ) (keys : List ℕ) (start p : ℕ) → start ≤ p → ((q : ℕ) → start ≤ q → q < p → has ps q ≡ false) → (q : ℕ) →
    key_given ps key start keys q ≡ key_given ps key p keys q
given-skip ps key keys start p le none q = elim (cases_lt q start) [
  | inl a ↦ ap (λ b. cond (b && has ps q) key (slice_index keys q)) (lt-ltb q start a ∙ sym (lt-ltb q p (omega arith)))
  | inr a ↦ elim (cases_lt q p) [
    | inl b ↦
        let l : (nat_lt q start && has ps q) ≡ false = ap (λ b. b && has ps q) (le-ltb q start a) in
        let r : (nat_lt q p && has ps q) ≡ false = ap (λ b. b && has ps q) (lt-ltb q p b) ∙ none q a b in
        cond-false (nat_lt q start && has ps q) key (slice_index keys q) l ∙ sym (cond-false (nat_lt q p && has ps q) key (slice_index keys q) r)
    | inr b ↦ ap (λ b. cond (b && has ps q) key (slice_index keys q)) (le-ltb q start a ∙ sym (le-ltb q p b))
  ]
]

module _ (ps : List ℕ) (key p : ℕ) (keys : List ℕ) where
  pub given-at : key_given ps key p keys p ≡ slice_index keys p
  given-at = cond-false (nat_lt p p && has ps p) key (slice_index keys p) (ap (λ b. b && has ps p) (le-ltb p p (omega arith)))

  -- the process p is one of them
  pub given-in : (q : ℕ) (now : List ℕ) → has ps p ≡ true → p < length now → slice_index now q ≡ key_given ps key p keys q →
      slice_index (set now p key) q ≡ key_given ps key (p + 1) keys q
  given-in q now t l e = elim (cases_eq q p) [
    | inl is ↦
        let c : (nat_lt q (p + 1) && has ps q) ≡ true = ap (λ b. b && has ps q) (lt-ltb q (p + 1) (omega arith)) ∙ ap (has ps) is ∙ t in
        ap (λ (i : ℕ). slice_index (set now p key) i) is ∙ get_or-set_same now p key 0 l
        ∙ sym (cond-true (nat_lt q (p + 1) && has ps q) key (slice_index keys q) c)
    | inr n ↦ get_or-set_other now p q key 0 n ∙ e ∙ ap (λ b. cond (b && has ps q) key (slice_index keys q)) (same q n)
  ]
    where
      same : (q : ℕ) → q ≢ p → nat_lt q p ≡ nat_lt q (p + 1)
      same q n = elim (cases_lt q p) [
        | inl a ↦ lt-ltb q p a ∙ sym (lt-ltb q (p + 1) (omega arith))
        | inr a ↦ le-ltb q p a ∙ sym (le-ltb q (p + 1) (let m : q ≢ p = n in omega arith))
      ]

  -- it is not
  pub given-out : (q : ℕ) (now : List ℕ) → has ps p ≡ false → slice_index now q ≡ key_given ps key p keys q → slice_index now q ≡ key_given ps key
      (p + 1) keys q
  given-out q now f e = elim (cases_eq q p) [
    | inl is ↦
        let c : (nat_lt q (p + 1) && has ps q) ≡ false = ap (λ b. b && has ps q) (lt-ltb q (p + 1) (omega arith)) ∙ ap (has ps) is ∙ f in
        let d : (nat_lt q p && has ps q) ≡ false = ap (λ b. b && has ps q) (le-ltb q p (omega arith)) in
        e ∙ cond-false (nat_lt q p && has ps q) key (slice_index keys q) d ∙ sym (cond-false (nat_lt q (p + 1) && has ps q) key (slice_index keys q) c)
    | inr n ↦ e ∙ ap (λ b. cond (b && has ps q) key (slice_index keys q)) (same q n)
  ]
    where
      same : (q : ℕ) → q ≢ p → nat_lt q p ≡ nat_lt q (p + 1)
      same q n = elim (cases_lt q p) [
        | inl a ↦ lt-ltb q p a ∙ sym (lt-ltb q (p + 1) (omega arith))
        | inr a ↦ le-ltb q p a ∙ sym (le-ltb q (p + 1) (let m : q ≢ p = n in omega arith))
      ]

-- one process more holds the key, and lets go of its own
module _ (r s t u : Shelf LocalState) (x y z : List LocalState) (keys now : List ℕ) (p key : ℕ) (l : p < length now) (a : HaveChanged r s x y keys now)
    (some : 0 < count s key)
    (b : HaveMore s t (one key)) (c : HaveFewer t u y z (one (slice_index now p))) where
  kept : (k : ℕ) → 0 < count t k → 0 < count s k
  kept k m = elim (cases_eq k key) [
    | inl e ↦ subst (λ (i : ℕ). 0 < count s i) (sym e) some
    | inr n ↦ let q = b.counts k in let o = one-other key k (λ (w : key ≡ k). n (sym w)) in omega arith
  ]

  before : (k : ℕ) → 0 < count u k → 0 < count s k
  before k m = kept k (let q = c.counts k in omega arith)

  pub changed-step : HaveChanged r u x z keys (set now p key)
  changed-step = record {
    counts = λ k. let e1 = a.counts k in let e2 = b.counts k in let e3 = c.counts k in let e4 = count-set k now p key l in omega arith;
    none_new = λ k m. a.none_new k (before k m);
    values = λ k m. c.values k m ∙ b.values k ∙ a.values k (before k m);
    whole = let e1 = a.whole in let e2 = b.live in let e3 = c.whole in omega arith;
    capacity = c.capacity ∙ b.capacity ∙ a.capacity;
    shaped = λ n m all spare. c.shaped n m
        (λ k h. subst (HasShape n m) (sym (b.values k ∙ a.values k (kept k h))) (all k (a.none_new k (kept k h)))) (a.shaped n m all spare);
  }

pub changed-same : (r s s' : Shelf LocalState) (x y y' : List LocalState) (keys now now' : List ℕ) → s' ≡ s → y' ≡ y → now' ≡ now →
    HaveChanged r s x y keys now → HaveChanged r s' x y' keys now'
changed-same r s s' x y y' keys now now' es ey en h =
    subst (λ (v : Shelf LocalState). HaveChanged r v x y' keys now') (sym es)
    (subst (λ (v : List LocalState). HaveChanged r s x v keys now') (sym ey) (subst (λ (v : List ℕ). HaveChanged r s x y keys v) (sym en) h))

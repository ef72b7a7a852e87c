-- A local state that gets a key.
use Rattle.std.proofs.Common.{◌≡◌, ◌≢◌, ℕ, ◌+◌, ◌<◌, ◌==◌, Bool, true, false, cond, List, [], ◌∷◌, ◌++◌, Option, Some, None, refl, sym, ap, subst, ◌∙◌}
use Rattle.std.proofs.Common.{arith, inl, inr, length-append, eqb-true, eq-eqb}
use Rattle.std.specs.Prelude.{MatchOption}
use Rattle.std.proofs.lemmas.Bool.{cases_eq, cases_Bool, cond-true, cond-false}
use Rattle.std.proofs.lemmas.List.Elements.{All-push}
use Rattle.za_local.specs.Locals.{LocalState, HasShape}
use Rattle.za_local.specs.Same.{same_local}
use Rattle.za_local.proofs.Same.{same_local-is, is-same_local}
use Rattle.za_records.specs.Shelf.{Shelf, at, count, count_of, live, passes, Changes, AreCounted}
use Rattle.za_records.specs.declared.shelf.Counted.{Counted}
use Rattle.za_shared.specs.Holders.{value, held_value}
use Rattle.za_shared.specs.Private.Steps.{HasShelved}

-- a key whose value passes
passed : (test : LocalState → Bool) (o : Option (Counted LocalState)) → passes test o ≡ true → (c : Counted LocalState) × (o ≡ Some c) × (test c.value ≡ true)
passed test None h = cc
passed test (Some c) h = (c, refl, h)

pub passes-live : (s : Shelf LocalState) (test : LocalState → Bool) (key : ℕ) → AreCounted s → passes test (at s key) ≡ true → 0 < count s key
passes-live s test key counted h = let p = passed test (at s key) h in let n = counted key p.0 p.1 in let e = ap count_of p.1 in omega arith

pub passes-value : (s : Shelf LocalState) (v : LocalState) (key : ℕ) → passes (λ x. same_local x v) (at s key) ≡ true → value s key ≡ v
passes-value s v key h = let p = passed (λ x. same_local x v) (at s key) h in ap held_value p.1 ∙ same_local-is p.0.value v p.2

some-counted : (o : Option (Counted LocalState)) → 0 < count_of o → (c : Counted LocalState) × (o ≡ Some c)
some-counted None h = absurd (omega arith)
some-counted (Some c) h = (c, refl)

pub none-passes : (s : Shelf LocalState) (v : LocalState) → ((k : ℕ) → passes (λ x. same_local x v) (at s k) ≡ false) → (k : ℕ) → 0 < count s k →
    value s k ≡ v → ⊥
none-passes s v h k some e =
    let p = some-counted (at s k) some in
    let t : passes (λ x. same_local x v) (at s k) ≡ true = ap (passes (λ x. same_local x v)) p.1 ∙ is-same_local p.0.value v (sym (ap held_value p.1) ∙ e) in
    let z : true ≡ false = sym t ∙ h k in cc

pub more-self : (key k n : ℕ) → k ≡ key → cond (key == k) n 0 ≡ n
more-self key k n e = cond-true (key == k) n 0 (eq-eqb key k (sym e))

pub more-other : (key k n : ℕ) → k ≢ key → cond (key == k) n 0 ≡ 0
more-other key k n d = elim (cases_Bool (key == k)) [
  | inl t ↦ absurd (d (sym (eqb-true key k t)))
  | inr f ↦ cond-false (key == k) n 0 f
]

module _ (s t : Shelf LocalState) (before : List LocalState) (made : LocalState) (n key : ℕ) where
  -- an equal one is there
  held-more : (c : Counted LocalState) → at s key ≡ Some c → Changes s t key (Some (record c { count = c.count + n })) → live t ≡ live s →
      0 < count s key → value s key ≡ made → HasShelved s t before (before ++ made ∷ []) made n key
  held-more c e ch l some is = record {
    counts = λ k. elim (cases_eq k key) [
      | inl same ↦ let a = ap count_of (ap (at t) same ∙ ch.here) in let b = ap count_of (ap (at s) same ∙ e) in let o = more-self key k n same in omega arith
      | inr d ↦ let a = ap count_of (ch.others k d) in let o = more-other key k n d in omega arith
    ];
    is = ap held_value ch.here ∙ sym (ap held_value e) ∙ is;
    values = λ k h. elim (cases_eq k key) [
      | inl same ↦ ap held_value (ap (at t) same ∙ ch.here) ∙ sym (ap held_value (ap (at s) same ∙ e))
      | inr d ↦ ap held_value (ch.others k d)
    ];
    fresh = inl some;
    whole = let q = length-append before (made ∷ []) in omega arith;
    capacity = ch.capacity;
    shaped = λ x y shape all. All-push (HasShape x y) before made all shape;
  }

  pub shelved-again : MatchOption (at s key) ⊥ (λ c. Changes s t key (Some (record c { count = c.count + n }))) → live t ≡ live s →
      0 < count s key → passes (λ x. same_local x made) (at s key) ≡ true → HasShelved s t before (before ++ made ∷ []) made n key
  shelved-again m l some p = go (at s key) refl m
    where
      go : (o : Option (Counted LocalState)) → at s key ≡ o → MatchOption o ⊥ (λ c. Changes s t key (Some (record c { count = c.count + n }))) →
          HasShelved s t before (before ++ made ∷ []) made n key
      go None e h = absurd h
      go (Some c) e h = held-more c e h l some (passes-value s made key p)

  -- none is there
  module _ (vacant : at s key ≡ None) (ch : Changes s t key (Some (record { value = made; count = n }))) where
    pub put-is : value t key ≡ made
    put-is = ap held_value ch.here

    pub put-old : (k : ℕ) → k ≢ key → 0 < count t k → 0 < count s k
    put-old k d h = let e = ap count_of (ch.others k d) in omega arith

    pub put-same : (k : ℕ) → k ≢ key → value t k ≡ value s k
    put-same k d = ap held_value (ch.others k d)

    pub shelved-new : live t ≡ live s + 1 → ((k : ℕ) → passes (λ x. same_local x made) (at s k) ≡ false) → HasShelved s t before before made n key
    shelved-new l none = record {
      counts = λ k. elim (cases_eq k key) [
        | inl same ↦ let a = ap count_of (ap (at t) same ∙ ch.here) in let b = ap count_of (ap (at s) same ∙ vacant) in let o = more-self key k n same in
            omega arith
        | inr d ↦ let a = ap count_of (ch.others k d) in let o = more-other key k n d in omega arith
      ];
      is = put-is;
      values = λ k h. elim (cases_eq k key) [
        | inl same ↦ absurd (let b = ap count_of (ap (at s) same ∙ vacant) in omega arith)
        | inr d ↦ put-same k d
      ];
      fresh = inr (none-passes s made none);
      whole = omega arith;
      capacity = ch.capacity;
      shaped = λ x y shape all. all;
    }

-- what holds of all records holds after it
module _ (s t : Shelf LocalState) (y z : List LocalState) (made : LocalState) (more key : ℕ) (h : HasShelved s t y z made more key) where
  -- a live key other than this one was live before
  pub kept : (k : ℕ) → k ≢ key → 0 < count t k → 0 < count s k
  kept k n some = let a = h.counts k in let o = more-other key k more n in omega arith

  module _ (apart : (j k : ℕ) → 0 < count s j → 0 < count s k → value s j ≡ value s k → j ≡ k) where
    alone : (k : ℕ) → k ≢ key → 0 < count t k → value t k ≡ value t key → ⊥
    alone k n some e =
        let live = kept k n some in
        elim h.fresh [
          | inl old ↦ n (apart k key live old (sym (h.values k live) ∙ e ∙ h.values key old))
          | inr none ↦ none k live (sym (h.values k live) ∙ e ∙ h.is)
        ]

    pub apart-more : (j k : ℕ) → 0 < count t j → 0 < count t k → value t j ≡ value t k → j ≡ k
    apart-more j k a b e = elim (cases_eq j key) [
      | inl ej ↦ elim (cases_eq k key) [
        | inl ek ↦ ej ∙ sym ek
        | inr nk ↦ absurd (alone k nk b (sym e ∙ ap (value t) ej))
      ]
      | inr nj ↦ elim (cases_eq k key) [
        | inl ek ↦ absurd (alone j nj a (e ∙ ap (value t) ek))
        | inr nk ↦ apart j k (kept j nj a) (kept k nk b) (sym (h.values j (kept j nj a)) ∙ e ∙ h.values k (kept k nk b))
      ]
    ]

  pub shaped-more : (n m : ℕ) → HasShape n m made → ((k : ℕ) → 0 < count s k → HasShape n m (value s k)) → (k : ℕ) → 0 < count t k → HasShape n m (value t k)
  shaped-more n m shape all k some = elim (cases_eq k key) [
    | inl e ↦ subst (HasShape n m) (sym (ap (value t) e ∙ h.is)) shape
    | inr d ↦ subst (HasShape n m) (sym (h.values k (kept k d some))) (all k (kept k d some))
  ]

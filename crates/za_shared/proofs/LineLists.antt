-- Lines in the order of their use.
use Rattle.std.proofs.Common.{◌≡◌, ℕ, ◌<◌, Bool, true, cond, nat_eq, List, [], ◌∷◌, ◌++◌, length, refl, sym, ap, subst, ◌∙◌, arith, inl, inr, Some, None}
use Rattle.std.proofs.Common.{eqb-true, length-append}
use Rattle.std.specs.Prelude.{count_by, ◌⊎◌}
use Rattle.std.specs.List.{All}
use Rattle.std.specs.Map.{lookup, lookup_entry, remove_entry}
use Rattle.std.specs.Option.{option_map_or}
use Rattle.std.specs.Cmp.Lexicographic.{pointwise, same_text}
use Rattle.std.proofs.lemmas.Bool.{cases_Bool, cond-true, cond-false, and_parts}
use Rattle.std.proofs.lemmas.List.Elements.{All-head, All-tail, All-cons, All-nil, All-append}
use Rattle.std.proofs.lemmas.List.Sums.{sum_by-append, sum_by-cons}
use Rattle.lru.specs.LruCache.{promoted}
use Rattle.za_cache.specs.Lines.{LineKey, line_key, is_key}

-- where the first entry stands whose key passes
pub record Split {K X : Type 0} (test : K → Bool) (es : List (K × X)) : Type 0 where
  pub key : K
  pub value : X
  pub before : List (K × X)
  pub after : List (K × X)
  pub passes : test key ≡ true
  pub entries : es ≡ before ++ (key, value) ∷ after
  pub found : lookup test es ≡ Some value
  pub entry : lookup_entry test es ≡ Some (key, value)
  pub rest : remove_entry test es ≡ before ++ after

module _ {K X : Type 0} (test : K → Bool) where
  pub split : (es : List (K × X)) → ((lookup test es ≡ None) × (lookup_entry test es ≡ None)) ⊎ Split test es
  split [] = inl (refl, refl)
  split (e ∷ es) = elim (cases_Bool (test e.0)) [
    | inl t ↦ inr (record {
      key = e.0;
      value = e.1;
      before = [];
      after = es;
      passes = t;
      entries = refl;
      found = cond-true (test e.0) (Some e.1) (lookup test es) t;
      entry = cond-true (test e.0) (Some e) (lookup_entry test es) t;
      rest = cond-true (test e.0) es (e ∷ remove_entry test es) t;
    })
    | inr f ↦
        let a = cond-false (test e.0) (Some e.1) (lookup test es) f in
        let b = cond-false (test e.0) (Some e) (lookup_entry test es) f in
        let d = cond-false (test e.0) es (e ∷ remove_entry test es) f in
        elim (split es) [
          | inl n ↦ inl (a ∙ n.0, b ∙ n.1)
          | inr s ↦ inr (record {
            key = s.key;
            value = s.value;
            before = e ∷ s.before;
            after = s.after;
            passes = s.passes;
            entries = ap (λ r. e ∷ r) s.entries;
            found = a ∙ s.found;
            entry = b ∙ s.entry;
            rest = d ∙ ap (λ r. e ∷ r) s.rest;
          })
        ]
  ]

  pub promoted-none : (es : List (K × X)) → lookup test es ≡ None → promoted test es ≡ es
  promoted-none es h = elim (split es) [
    | inl n ↦ ap (λ o. option_map_or (λ e. e ∷ remove_entry test es) o es) n.1
    | inr s ↦ absurd (let z = sym h ∙ s.found in cc)
  ]

  pub promoted-split : (es : List (K × X)) (s : Split test es) → promoted test es ≡ (s.key, s.value) ∷ (s.before ++ s.after)
  promoted-split es s = ap (λ o. option_map_or (λ e. e ∷ remove_entry test es) o es) s.entry ∙ ap (λ r. (s.key, s.value) ∷ r) s.rest

  pub split-found : (es : List (K × X)) (v : X) → lookup test es ≡ Some v → (s : Split test es) × (s.value ≡ v)
  split-found es v h = elim (split es) [
    | inl n ↦ absurd (let z = sym h ∙ n.0 in cc)
    | inr s ↦ (s, let z = sym s.found ∙ h in cc)
  ]

  pub count-promoted : (p : K × X → Bool) (es : List (K × X)) (s : Split test es) → count_by p (promoted test es) ≡ count_by p es
  count-promoted p es s =
      let f : K × X → ℕ = λ e. cond (p e) 1 0 in
      let a = ap (count_by p) (promoted-split es s) in
      let b = sum_by-append f s.before s.after in
      let c = sum_by-append f s.before ((s.key, s.value) ∷ s.after) in
      let g = sum_by-cons f (s.key, s.value) (s.before ++ s.after) in
      let h = sum_by-cons f (s.key, s.value) s.after in
      let d = ap (count_by p) s.entries in omega arith

  pub length-promoted : (es : List (K × X)) (s : Split test es) → length (promoted test es) ≡ length es
  length-promoted es s =
      let a = ap length (promoted-split es s) in
      let b = length-append s.before s.after in
      let c = length-append s.before ((s.key, s.value) ∷ s.after) in
      let d = ap length s.entries in omega arith

all-front : {X : Type 0} (P : X → Type 0) (xs ys : List X) → All P (xs ++ ys) → All P xs
all-front P [] ys h = All-nil P
all-front P (x ∷ xs) ys h = All-cons P x xs (All-head P x (xs ++ ys) h) (all-front P xs ys (All-tail P x (xs ++ ys) h))

all-back : {X : Type 0} (P : X → Type 0) (xs ys : List X) → All P (xs ++ ys) → All P ys
all-back P [] ys h = h
all-back P (x ∷ xs) ys h = all-back P xs ys (All-tail P x (xs ++ ys) h)

pub all-begin : {X : Type 0} (P : X → Type 0) (xs ys : List X) → All P (xs ++ ys) → All P xs
all-begin P xs ys h = all-front P xs ys h

pub all-last : {X : Type 0} (P : X → Type 0) (xs : List X) (y : X) → All P (xs ++ y ∷ []) → P y
all-last P xs y h = All-head P y [] (all-back P xs (y ∷ []) h)

module _ {K X : Type 0} (test : K → Bool) (P : K × X → Type 0) (es : List (K × X)) (s : Split test es) (h : All P es) where
  whole : All P (s.before ++ (s.key, s.value) ∷ s.after)
  whole = subst (All P) s.entries h

  pub all-found : P (s.key, s.value)
  all-found = All-head P (s.key, s.value) s.after (all-back P s.before ((s.key, s.value) ∷ s.after) whole)

  pub all-promoted : All P (promoted test es)
  all-promoted = subst (All P) (sym (promoted-split test es s))
      (All-cons P (s.key, s.value) (s.before ++ s.after) all-found
      (All-append P s.before s.after (all-front P s.before ((s.key, s.value) ∷ s.after) whole)
      (All-tail P (s.key, s.value) s.after (all-back P s.before ((s.key, s.value) ∷ s.after) whole))))

-- the entry counts
pub count-found : {K X : Type 0} (test : K → Bool) (p : K × X → Bool) (es : List (K × X)) (s : Split test es) → p (s.key, s.value) ≡ true → 0 < count_by p es
count-found {K} {X} test p es s t =
    let f : K × X → ℕ = λ e. cond (p e) 1 0 in
    let c = sum_by-append f s.before ((s.key, s.value) ∷ s.after) in
    let d = ap (count_by p) s.entries in
    let h = sum_by-cons f (s.key, s.value) s.after in
    let o = cond-true {A = ℕ} (p (s.key, s.value)) 1 0 t in omega arith

-- a key that passes is the one that is looked for
pub key-is : (letter : ℕ) (inputs : List ℕ) (k : LineKey) → is_key letter inputs k ≡ true → k ≡ line_key letter inputs
key-is letter inputs k h =
    let b = and_parts (nat_eq letter k.letter) (pointwise nat_eq inputs k.inputs) h in
    let e = eqb-true letter k.letter b.0 in
    let f = same_text inputs k.inputs (sym b.1) in
    (λ i. line_key (sym e i) (sym f i))

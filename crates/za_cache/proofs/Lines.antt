-- Lines and the entries of the cache.
use Rattle.std.proofs.Common.{◌≡◌, ℕ, zero, suc, ◌-◌, ◌≤◌, Bool, true, false, List, [], ◌∷◌, ◌++◌, length, take, map, cond, Option, Some, None, refl, ap, ◌∙◌}
use Rattle.std.proofs.Common.{sym, inl, inr, arith}
use Rattle.std.proofs.lemmas.Bool.{cases_Bool, cond-true, cond-false}
use Rattle.std.specs.List.{slice_get, AllByRecursion, IsDistinct}
use Rattle.std.specs.Option.{is_some, option_map_or, option_map}
use Rattle.std.specs.Map.{keys_of, lookup, lookup_entry, remove_entry}
use Rattle.lru.specs.LruCache.{LruCache, put_entries, displaced, promoted}

module _ {K L X : Type 0} (test : K → Bool) (bare : K → L) (other : L → Bool) (same : (k : K) → other (bare k) ≡ test k) where
  abbrev thin : K × X → L × X
  thin e = (bare e.0, e.1)

  -- looking up through the map
  pub lookup-bare : (es : List (K × X)) → lookup other (map (λ (e : K × X). (bare e.0, e.1)) es) ≡ lookup test es
  lookup-bare [] = refl
  lookup-bare (e ∷ es) = ap (λ b. cond b (Some e.1) (lookup other (map thin es))) (same e.0) ∙ ap (λ o. cond (test e.0) (Some e.1) o) (lookup-bare es)

  entry-bare : (es : List (K × X)) → lookup_entry other (map thin es) ≡ option_map thin (lookup_entry test es)
  entry-bare [] = refl
  entry-bare (e ∷ es) = ap (λ b. cond b (Some (thin e)) (lookup_entry other (map thin es))) (same e.0) ∙ elim (cases_Bool (test e.0)) [
    | inl t ↦ cond-true (test e.0) (Some (thin e)) (lookup_entry other (map thin es)) t ∙ sym
        (ap (option_map thin) (cond-true (test e.0) (Some e) (lookup_entry test es) t))
    | inr f ↦ cond-false (test e.0) (Some (thin e)) (lookup_entry other (map thin es)) f ∙ entry-bare es ∙ sym
        (ap (option_map thin) (cond-false (test e.0) (Some e) (lookup_entry test es) f))
  ]

  removed-bare : (es : List (K × X)) → remove_entry other (map thin es) ≡ map thin (remove_entry test es)
  removed-bare [] = refl
  removed-bare (e ∷ es) = ap (λ b. cond b (map thin es) (thin e ∷ remove_entry other (map thin es))) (same e.0) ∙ elim (cases_Bool (test e.0)) [
    | inl t ↦ cond-true (test e.0) (map thin es) (thin e ∷ remove_entry other (map thin es)) t ∙ sym
        (ap (map thin) (cond-true (test e.0) es (e ∷ remove_entry test es) t))
    | inr f ↦ cond-false (test e.0) (map thin es) (thin e ∷ remove_entry other (map thin es)) f ∙ ap (λ r. thin e ∷ r) (removed-bare es) ∙ sym
        (ap (map thin) (cond-false (test e.0) es (e ∷ remove_entry test es) f))
  ]

  pub promoted-bare : (es : List (K × X)) → promoted other (map (λ (e : K × X). (bare e.0, e.1)) es) ≡ map (λ (e : K × X). (bare e.0, e.1)) (promoted test es)
  promoted-bare es =
      ap (λ o. option_map_or (λ e. e ∷ remove_entry other (map thin es)) o (map thin es)) (entry-bare es)
      ∙ ap (λ r. option_map_or (λ e. e ∷ r) (option_map thin (lookup_entry test es)) (map thin es)) (removed-bare es)
      ∙ go (lookup_entry test es)
    where
      go : (o : Option (K × X)) → option_map_or (λ e. e ∷ map thin (remove_entry test es)) (option_map thin o) (map thin es) ≡ map thin
          (option_map_or (λ e. e ∷ remove_entry test es) o es)
      go None = refl
      go (Some e) = refl

module _ {K X : Type 0} (test : K → Bool) where
  pub absent-entry : (es : List (K × X)) → is_some (lookup test es) ≡ false → (lookup_entry test es ≡ None) × (lookup test es ≡ None)
  absent-entry [] h = (refl, refl)
  absent-entry (e ∷ es) h = elim (cases_Bool (test e.0)) [
    | inl t ↦ absurd (let k = ap is_some (cond-true (test e.0) (Some e.1) (lookup test es) t) in let z : true ≡ false = sym k ∙ h in cc)
    | inr f ↦
        let c = cond-false (test e.0) (Some e.1) (lookup test es) f in
        let r = absent-entry es (sym (ap is_some c) ∙ h) in
        (cond-false (test e.0) (Some e) (lookup_entry test es) f ∙ r.0, c ∙ r.1)
  ]

module _ {K X : Type 0} (eq : K → K → Bool) (c : LruCache K X) (k : K) (v : X) (h : is_some (lookup (eq k) c.entries) ≡ false) where
  pub put-absent : put_entries eq c k v ≡ (k, v) ∷ take (c.cap - 1) c.entries
  put-absent = ap (λ (o : Option (K × X)). option_map_or (λ e. (e.0, v) ∷ remove_entry (eq k) c.entries) o ((k, v) ∷ take (c.cap - 1) c.entries))
      (absent-entry (eq k) c.entries h).0

  pub displaced-absent : displaced eq c k v ≡ slice_get c.entries (c.cap - 1)
  displaced-absent = ap (λ (o : Option X). option_map_or (λ old. Some (k, old)) o (slice_get c.entries (c.cap - 1))) (absent-entry (eq k) c.entries h).1

-- what stands at the last place that a list may have
pub none-last : {X : Type 0} (n : ℕ) (xs : List X) → slice_get xs n ≡ None → (length xs ≤ n) × (take n xs ≡ xs)
none-last zero [] h = (omega arith, refl)
none-last zero (x ∷ xs) h = cc
none-last (suc n) [] h = (omega arith, refl)
none-last (suc n) (x ∷ xs) h = let r = none-last n xs h in (let l = r.0 in omega arith, ap (λ t. x ∷ t) r.1)

pub some-last : {X : Type 0} (n : ℕ) (xs : List X) (x : X) → slice_get xs n ≡ Some x → length xs ≤ suc n → (xs ≡ take n xs ++ x ∷ []) × (length xs ≡ suc n)
some-last zero [] x h l = cc
some-last (suc n) [] x h l = cc
some-last zero (y ∷ []) x h l = let e : y ≡ x = cc in (ap (λ z. z ∷ []) e, refl)
some-last zero (y ∷ z ∷ xs) x h l = absurd (omega arith)
some-last (suc n) (y ∷ xs) x h l = let r = some-last n xs x h (omega arith) in (ap (λ t. y ∷ t) r.0, ap suc r.1)

-- distinct keys stay distinct without their places in memory
module _ {K L X : Type 0} (test : K → K → Bool) (bare : K → L) (other : L → L → Bool) (same : (j k : K) → other (bare j) (bare k) ≡ test j k) where
  apart-bare : (j : K) (es : List (K × X)) → AllByRecursion (λ k. test j k ≡ false) (keys_of es) → AllByRecursion (λ k. other (bare j) k ≡ false)
      (keys_of (map (λ (e : K × X). (bare e.0, e.1)) es))
  apart-bare j [] d = tt
  apart-bare j (e ∷ es) d = (same j e.0 ∙ d.0, apart-bare j es d.1)

  pub distinct-bare : (es : List (K × X)) → IsDistinct test (keys_of es) → IsDistinct other (keys_of (map (λ (e : K × X). (bare e.0, e.1)) es))
  unfolding IsDistinct
  distinct-bare [] d = tt
  distinct-bare (e ∷ es) d = (apart-bare e.0 es d.0, distinct-bare es d.1)

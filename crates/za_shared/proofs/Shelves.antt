-- What the calls of a shelf do to the counts and values of its keys.
use Rattle.std.proofs.Common.{◌≡◌, ◌≢◌, ℕ, zero, suc, ◌+◌, ◌-◌, ◌<◌, ◌≤◌, ◌==◌, Bool, true, false, cond, List, [], ◌∷◌, ◌++◌, length, refl, sym, ap, subst, ◌∙◌}
use Rattle.std.proofs.Common.{arith, inl, inr, Option, Some, None, eqb-true, eq-eqb}
use Rattle.std.specs.Prelude.{MatchOption}
use Rattle.std.proofs.lemmas.Bool.{cases_Bool, cases_eq, cond-true, cond-false}
use Rattle.std.proofs.lemmas.List.Elements.{All-push}
use Rattle.za_records.specs.Shelf.{Shelf, at, live, count, count_of, Changes}
use Rattle.za_records.specs.declared.shelf.Counted.{Counted}
use Rattle.za_local.specs.Locals.{LocalState, HasShape}
use Rattle.za_shared.specs.Holders.{value, held_value}
use Rattle.za_shared.specs.Private.Steps.{one, HaveMore, HaveFewer}

pub one-self : (k : ℕ) → one k k ≡ 1
one-self k = cond-true (k == k) 1 0 (eq-eqb k k refl)

pub one-other : (x k : ℕ) → x ≢ k → one x k ≡ 0
one-other x k n = elim (cases_Bool (x == k)) [
  | inl t ↦ absurd (n (eqb-true x k t))
  | inr f ↦ cond-false (x == k) 1 0 f
]

module _ (s t : Shelf LocalState) (key : ℕ) where
  held-some : (c : Counted LocalState) → at s key ≡ Some c → Changes s t key (Some (record c { count = c.count + 1 })) → live t ≡ live s →
      HaveMore s t (one key)
  held-some c e ch l = record {
    counts = λ k. elim (cases_eq k key) [
      | inl is ↦ let a = ap count_of (ap (at t) is ∙ ch.here) in let b = ap count_of (ap (at s) is ∙ e) in let o = ap (one key) is ∙ one-self key in omega arith
      | inr n ↦ let a = ap count_of (ch.others k n) in let o = one-other key k (λ (z : key ≡ k). n (sym z)) in omega arith
    ];
    values = λ k. elim (cases_eq k key) [
      | inl is ↦ ap held_value (ap (at t) is ∙ ch.here) ∙ sym (ap held_value (ap (at s) is ∙ e))
      | inr n ↦ ap held_value (ch.others k n)
    ];
    live = l;
    capacity = ch.capacity;
  }

  pub held : MatchOption (at s key) ⊥ (λ c. Changes s t key (Some (record c { count = c.count + 1 }))) → live t ≡ live s → HaveMore s t (one key)
  held m l = go (at s key) refl m
    where
      go : (o : Option (Counted LocalState)) → at s key ≡ o → MatchOption o ⊥ (λ c. Changes s t key (Some (record c { count = c.count + 1 }))) →
          HaveMore s t (one key)
      go None e h = absurd h
      go (Some c) e h = held-some c e h l

  -- the last holder is gone
  pub gone : (spares : List LocalState) (v : LocalState) → count s key ≡ 1 → Changes s t key None → v ≡ value s key → live t + 1 ≡ live s →
      HaveFewer s t spares (spares ++ v ∷ []) (one key)
  gone spares v last ch is l = record {
    counts = λ k. elim (cases_eq k key) [
      | inl e ↦ let a = ap count_of (ap (at t) e ∙ ch.here) in let b = ap (count s) e in let o = ap (one key) e ∙ one-self key in omega arith
      | inr n ↦ let a = ap count_of (ch.others k n) in let o = one-other key k (λ (z : key ≡ k). n (sym z)) in omega arith
    ];
    values = λ k some. elim (cases_eq k key) [
      | inl e ↦ absurd (let a = ap count_of (ap (at t) e ∙ ch.here) in omega arith)
      | inr n ↦ ap held_value (ch.others k n)
    ];
    whole = let e = Rattle.std.proofs.Common.length-append spares (v ∷ []) in omega arith;
    capacity = ch.capacity;
    shaped = λ n m all h. All-push (HasShape n m) spares v h (subst (HasShape n m) (sym is) (all key (omega arith)));
  }

  fewer-some : (spares : List LocalState) (c : Counted LocalState) → at s key ≡ Some c → 1 < count s key →
      Changes s t key (Some (record c { count = c.count - 1 })) → live t ≡ live s → HaveFewer s t spares spares (one key)
  fewer-some spares c e more ch l = record {
    counts = λ k. elim (cases_eq k key) [
      | inl is ↦ let a = ap count_of (ap (at t) is ∙ ch.here) in let b = ap count_of (ap (at s) is ∙ e) in let d = ap count_of e in let o = ap (one key) is
          ∙ one-self key in omega arith
      | inr n ↦ let a = ap count_of (ch.others k n) in let o = one-other key k (λ (z : key ≡ k). n (sym z)) in omega arith
    ];
    values = λ k some. elim (cases_eq k key) [
      | inl is ↦ ap held_value (ap (at t) is ∙ ch.here) ∙ sym (ap held_value (ap (at s) is ∙ e))
      | inr n ↦ ap held_value (ch.others k n)
    ];
    whole = omega arith;
    capacity = ch.capacity;
    shaped = λ n m all h. h;
  }

  pub fewer : (spares : List LocalState) → 1 < count s key → MatchOption (at s key) ⊥ (λ c. Changes s t key (Some (record c { count = c.count - 1 }))) →
      live t ≡ live s → HaveFewer s t spares spares (one key)
  fewer spares more m l = go (at s key) refl m
    where
      go : (o : Option (Counted LocalState)) → at s key ≡ o → MatchOption o ⊥ (λ c. Changes s t key (Some (record c { count = c.count - 1 }))) →
          HaveFewer s t spares spares (one key)
      go None e h = absurd h
      go (Some c) e h = fewer-some spares c e more h l

  pub value-there : (r : Option LocalState) → MatchOption (at s key) ⊥ (λ c. r ≡ Some c.value) → r ≡ Some (value s key)
  value-there r m = go (at s key) refl m
    where
      go : (o : Option (Counted LocalState)) → at s key ≡ o → MatchOption o ⊥ (λ c. r ≡ Some c.value) → r ≡ Some (value s key)
      go None e h = absurd h
      go (Some c) e h = h ∙ ap Some (sym (ap held_value e))

pub value-got : (s : Shelf LocalState) (key : ℕ) (v : LocalState) → MatchOption (at s key) ⊥ (λ c. v ≡ c.value) → v ≡ value s key
value-got s key v m = go (at s key) refl m
  where
    go : (o : Option (Counted LocalState)) → at s key ≡ o → MatchOption o ⊥ (λ c. v ≡ c.value) → v ≡ value s key
    go None e h = absurd h
    go (Some c) e h = h ∙ sym (ap held_value e)

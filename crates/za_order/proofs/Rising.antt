-- The members of a set of processes stand in rising order.
use Rattle.std.proofs.Common.{◌≡◌, ℕ, zero, suc, ◌+◌, ◌<◌, ◌≤◌, Bool, true, false, ◌==◌, ◌++◌, cond, inl, inr, List, [], ◌∷◌, length, get_or, take, filter, map}
use Rattle.std.proofs.Common.{refl, sym, ap, subst, ◌∙◌, arith, add-one}
use Rattle.std.specs.List.{range_with_len}
use Rattle.std.specs.Int.{bit_at}
use Rattle.std.proofs.lemmas.Bool.{cases_Bool, cases_eq, cond-true, cond-false, cond_both}
use Rattle.std.proofs.lemmas.List.{append-nil, map-append}
use Rattle.za_alpha.specs.declared.procs.Procs.{Procs}
use Rattle.za_alpha.specs.Words.{has}
use Rattle.za_alpha.specs.Procs.{members, members_below}
use Rattle.za_alpha.proofs.Members.{members_below-zero, members_below-more, length-members_below-more}
use Rattle.za_order.proofs.Sets.{has-cases, has-here, has-there}

-- each element is above those before it, and none is below the first
pub record IsRising (xs : List ℕ) : Type 0 where
  pub above : (y x : ℕ) → y < length xs → has (take y xs) x ≡ true → x < get_or xs y 0
  pub first : (x : ℕ) → has xs x ≡ true → get_or xs 0 0 ≤ x

-- an element is in a list at its place
pub has-place : (xs : List ℕ) (i : ℕ) → i < length xs → has xs (get_or xs i 0) ≡ true
has-place [] i l = absurd (omega arith)
has-place (x ∷ xs) zero l = has-here x x xs refl
has-place (x ∷ xs) (suc i) l = has-there x (get_or xs i 0) xs (has-place xs i (omega arith))

-- a list of greater elements after a first one
rising-cons : (a : ℕ) (xs : List ℕ) → ((x : ℕ) → has xs x ≡ true → a < x) → IsRising xs → IsRising (a ∷ xs)
rising-cons a xs low r = record {
  above = λ y x l h. place y x l h;
  first = λ x h. elim (has-cases a x xs h) [ inl e ↦ omega arith | inr t ↦ let k = low x t in omega arith ];
}
  where
    place : (y x : ℕ) → y < length (a ∷ xs) → has (take y (a ∷ xs)) x ≡ true → x < get_or (a ∷ xs) y 0
    place zero x l h = cc
    place (suc y) x l h =
        elim (has-cases a x (take y xs) h) [
          | inl e ↦ let k = low (get_or xs y 0) (has-place xs y (omega arith)) in omega arith
          | inr t ↦ r.above y x (omega arith) t
        ]

module _ (test : ℕ → Bool) where
  -- what passes of a range is not below its start
  from-start : (a n x : ℕ) → has (filter test (range_with_len a n)) x ≡ true → a ≤ x
  from-start a zero x h = cc
  from-start a (suc n) x h =
      let rest = filter test (range_with_len (a + 1) n) in
      elim (cases_Bool (test a)) [
        | inl t ↦ elim (has-cases a x rest (subst (λ xs. has xs x ≡ true) (cond-true (test a) (a ∷ rest) rest t) h)) [
          | inl e ↦ omega arith
          | inr k ↦ let l = from-start (a + 1) n x k in omega arith
        ]
        | inr f ↦ let l = from-start (a + 1) n x (subst (λ xs. has xs x ≡ true) (cond-false (test a) (a ∷ rest) rest f) h) in omega arith
      ]

  -- and rises
  rising-range : (a n : ℕ) → IsRising (filter test (range_with_len a n))
  rising-range a zero = record { above = λ y x l h. absurd (omega arith); first = λ x h. cc }
  rising-range a (suc n) =
      let rest = filter test (range_with_len (a + 1) n) in
      let r = rising-range (a + 1) n in
      elim (cases_Bool (test a)) [
        | inl t ↦ subst (λ xs. IsRising xs) (sym (cond-true (test a) (a ∷ rest) rest t))
            (rising-cons a rest (λ x h. let l = from-start (a + 1) n x h in omega arith) r)
        | inr f ↦ subst (λ xs. IsRising xs) (sym (cond-false (test a) (a ∷ rest) rest f)) r
      ]

-- so do the members of a set
pub rising-members : (s : Procs) → IsRising (members s)
unfolding members_below
rising-members s = rising-range (λ q. bit_at s.0 q == 1) 0 16

-- a set has no others than those below a number that is above all
pub members-fit : (s : Procs) (n : ℕ) → n ≤ 16 → ((p : ℕ) → has (members s) p ≡ true → p < n) → members_below s n ≡ members s
members-fit s n l h = sym (fit 16 l (omega arith))
  where
    fit : (k : ℕ) → n ≤ k → k ≤ 16 → members_below s k ≡ members_below s n
    fit zero le few = let e : n ≡ 0 = omega arith in ap (members_below s) (sym e)
    fit (suc k) le few =
        elim (cases_eq n (suc k)) [
          | inl e ↦ ap (members_below s) (sym e)
          | inr ne ↦
              let out : has (members s) k ≡ false = elim (cases_Bool (has (members s) k)) [
                | inl t ↦ absurd (let low = h k t in omega arith)
                | inr f ↦ f
              ] in
              let rest : members_below s k ++ cond (has (members s) k) (k ∷ []) [] ≡ members_below s k =
              ap (λ xs. members_below s k ++ xs) (cond-false (has (members s) k) (k ∷ []) [] out) ∙ append-nil (members_below s k) in
              ap (members_below s) (sym (add-one k)) ∙ members_below-more s k (omega arith) ∙ rest ∙ fit k (omega arith) (omega arith)
        ]

-- there are no more of them below n than n
pub length-members_below-le : (s : Procs) (n : ℕ) → n ≤ 16 → length (members_below s n) ≤ n
length-members_below-le s zero l = let e = ap length (members_below-zero s) in omega arith
length-members_below-le s (suc n) l =
    let rest = length-members_below-le s n (omega arith) in
    let more = ap (λ k. length (members_below s k)) (sym (add-one n)) ∙ length-members_below-more s n (omega arith) in
    let one : cond (has (members s) n) 1 0 ≤ 1 = cond_both (has (members s) n) 1 0 (λ k. k ≤ 1) (λ t. omega arith) (λ f. omega arith) in
    omega arith

-- and so no more in all, where all are below n
pub length-members-le : (s : Procs) (n : ℕ) → n ≤ 16 → ((p : ℕ) → has (members s) p ≡ true → p < n) → length (members s) ≤ n
length-members-le s n l h = let e = ap length (members-fit s n l h) in let k = length-members_below-le s n l in omega arith

-- what a function makes of the members below n + 1, from those below n
pub map-members-in : {X : Type 0} (f : ℕ → X) (s : Procs) (n : ℕ) → n < 16 → has (members s) n ≡ true →
    map f (members_below s (n + 1)) ≡ map f (members_below s n) ++ f n ∷ []
map-members-in f s n l h =
    ap (map f) (members_below-more s n l ∙ ap (λ xs. members_below s n ++ xs) (cond-true (has (members s) n) (n ∷ []) [] h))
    ∙ map-append f (members_below s n) (n ∷ [])

pub map-members-out : {X : Type 0} (f : ℕ → X) (s : Procs) (n : ℕ) → n < 16 → has (members s) n ≡ false →
    map f (members_below s (n + 1)) ≡ map f (members_below s n)
map-members-out f s n l h =
    ap (map f) (members_below-more s n l ∙ ap (λ xs. members_below s n ++ xs) (cond-false (has (members s) n) (n ∷ []) [] h) ∙ append-nil (members_below s n))

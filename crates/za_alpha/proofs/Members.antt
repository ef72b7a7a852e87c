-- The processes of a set and the bits of its number.
use Rattle.std.proofs.Common.{◌≡◌, ◌≢◌, ℕ, suc, zero, ◌+◌, ◌-◌, ◌*◌, ◌/◌, ◌%◌, ◌^◌, ◌<◌, ◌≤◌, Bool, true, false, ◌||◌, ◌&&◌, List, [], ◌∷◌, ◌++◌, filter, ◌==◌}
use Rattle.std.proofs.Common.{length, length-append, refl, sym, ap, ◌∙◌, arith, add-one, eqb, eq-eqb, eqb-true, cond, max, min, inl, inr}
use Rattle.std.specs.Prelude.{bit_or, bit_and, nat_lt, nat_le, Option, Some, None, MatchOption}
use Rattle.std.specs.List.{range_with_len}
use Rattle.std.specs.Int.{bit_at, w16, w32, trailing_zeros}
use Rattle.std.proofs.lemmas.Nat.Bits.{bit_at_or, bit_at_and, bit_at-lt, bit_at-zero, bit_at_set_same, bit_at_set_other, same_from_bits, bit_at_above}
use Rattle.std.proofs.lemmas.Nat.{shr-shr, shr_le}
use Rattle.std.proofs.lemmas.Nat.Bits.{bit_at-trailing_zeros}
use Rattle.std.proofs.lemmas.Bool.{cases_Bool, cases_eq, cond-false, or_left, and_parts}
use Rattle.std.proofs.lemmas.Bool.Decides.{eqb_tells, nat_tests}
use Rattle.std.proofs.lemmas.List.{append-nil}
use Rattle.std.proofs.lemmas.List.Elements.{filter-append}
use Rattle.std.proofs.lemmas.Map.Views.{any-filter_same}
use Rattle.za_alpha.specs.declared.procs.Procs.{Procs}
use Rattle.za_alpha.specs.Words.{has, meets}
use Rattle.za_alpha.specs.Procs.{members, members_below, IsLeastFrom, IsLeastOf}
use Rattle.za_alpha.proofs.Swaps.{meets-elim, meets-intro}

-- which numbers are in a range
pub has-range : (a n p : ℕ) → has (range_with_len a n) p ≡ (nat_le a p && nat_lt p (a + n))
has-range a zero p = grind (arith, nat_tests)
has-range a (suc n) p = let ih = has-range (a + 1) n p in grind (arith, nat_tests, ih)

pub has-range-below : (n p : ℕ) → has (range_with_len 0 n) p ≡ nat_lt p n
has-range-below n p = let e = has-range 0 n p in grind (arith, nat_tests, e)

-- which elements of a list pass a test
pub has-filter : (test : ℕ → Bool) (ps : List ℕ) (p : ℕ) → has (filter test ps) p ≡ (test p && has ps p)
has-filter test ps p = any-filter_same (λ q. q == p) test (test p) (λ q h. ap test (eqb-true q p h)) ps

members-is : (s : Procs) → members s ≡ filter (λ q. eqb (bit_at s.0 q) 1) (range_with_len 0 16)
unfolding members_below
members-is s = refl

-- a process is in the set exactly if its bit is set
pub has-members : (s : Procs) (p : ℕ) → has (members s) p ≡ (eqb (bit_at s.0 p) 1 && nat_lt p 16)
has-members s p =
    ap (λ ps. has ps p) (members-is s) ∙ has-filter (λ q. eqb (bit_at s.0 q) 1) (range_with_len 0 16) p
    ∙ ap (λ b. eqb (bit_at s.0 p) 1 && b) (has-range-below 16 p)

-- a list in which nothing is found is empty
pub nothing-empty : (ps : List ℕ) → ((p : ℕ) → has ps p ≡ false) → ps ≡ []
nothing-empty [] h = refl
nothing-empty (p ∷ ps) h = let f = h p in let t : has (p ∷ ps) p ≡ true = or_left (eqb p p) (has ps p) (eq-eqb p p refl) in cc

one_of_max : (x y : ℕ) → x < 2 → y < 2 → eqb (max x y) 1 ≡ (eqb x 1 || eqb y 1)
one_of_max zero zero p q = refl
one_of_max zero (suc zero) p q = refl
one_of_max (suc zero) zero p q = refl
one_of_max (suc zero) (suc zero) p q = refl
one_of_max zero (suc (suc y)) p q = absurd (omega arith)
one_of_max (suc zero) (suc (suc y)) p q = absurd (omega arith)
one_of_max (suc (suc x)) y p q = absurd (omega arith)

-- a bit of an or
bit-or : (a b p : ℕ) → eqb (bit_at (bit_or a b) p) 1 ≡ (eqb (bit_at a p) 1 || eqb (bit_at b p) 1)
bit-or a b p = rw (bit_at_or a b p) (one_of_max _ _ (bit_at-lt a p) (bit_at-lt b p))

pub and-true : (b : Bool) → (b && true) ≡ b
and-true true = refl
and-true false = refl

pub and-false : (b : Bool) → (b && false) ≡ false
and-false true = refl
and-false false = refl

and-or : (a b c : Bool) → ((a || b) && c) ≡ ((a && c) || (b && c))
and-or true true true = refl
and-or true true false = refl
and-or true false true = refl
and-or true false false = refl
and-or false true true = refl
and-or false true false = refl
and-or false false c = refl

-- a process is in a union exactly if it is in one of the sets
pub has-union : (a b p : ℕ) → has (members (record { 0 = bit_or a b })) p ≡ (has (members (record { 0 = a })) p || has (members (record { 0 = b })) p)
has-union a b p =
    has-members (record { 0 = bit_or a b }) p ∙ ap (λ x. x && nat_lt p 16) (bit-or a b p) ∙ and-or (eqb (bit_at a p) 1) (eqb (bit_at b p) 1) (nat_lt p 16)
    ∙ sym (ap (λ x. x || has (members (record { 0 = b })) p) (has-members (record { 0 = a }) p)
    ∙ ap (λ x. (eqb (bit_at a p) 1 && nat_lt p 16) || x) (has-members (record { 0 = b }) p))

-- a bit after one was set
bit-set : (a k p : ℕ) → k < 16 → eqb (bit_at (bit_or a (1 * 2 ^ k % 65536)) p) 1 ≡ (eqb p k || eqb (bit_at a p) 1)
bit-set a k p h =
    elim (eqb_tells p k) [
      | inl s ↦ rw (s.0, s.1, bit_at_set_same w16 a k h) refl
      | inr s ↦ rw (s.0, bit_at_set_other w16 a k h p s.1) refl
    ]

-- a process is in the set after one joined exactly if it is that one or was in it
pub has-with : (a k p : ℕ) → k < 16 → has (members (record { 0 = bit_or a (1 * 2 ^ k % 65536) })) p ≡ (eqb p k || has (members (record { 0 = a })) p)
has-with a k p h =
    let now = has-members (record { 0 = bit_or a (1 * 2 ^ k % 65536) }) p in
    let was = has-members (record { 0 = a }) p in
    let set = bit-set a k p h in
    elim (eqb_tells p k) [
      | inl s ↦ let small : nat_lt p 16 ≡ true = grind (arith, nat_tests) in now ∙ grind (arith, set, small, s.0)
      | inr s ↦ now ∙ grind (arith, set, was, s.0)
    ]

-- no bit is set in 0 alone
no_bit : (a : ℕ) → ((p : ℕ) → eqb (bit_at a p) 1 ≡ false) → a ≡ 0
no_bit a h = same_from_bits a 0 (λ p. let small : bit_at a p < 2 = bit_at-lt a p in let off : eqb (bit_at a p) 1 ≡ false = h p in grind (arith, bit_at-zero p))

-- the set of the number 0 is empty, and no other is
pub members-zero : members (record { 0 = 0 }) ≡ []
members-zero = nothing-empty (members (record { 0 = 0 })) (λ p. has-members (record { 0 = 0 }) p ∙ ap (λ n. eqb n 1 && nat_lt p 16) (bit_at-zero p))

pub zero-members : (a : ℕ) → a < 2 ^ 16 → members (record { 0 = a }) ≡ [] → a ≡ 0
zero-members a small e =
    no_bit a (λ p.
    let none : false ≡ (eqb (bit_at a p) 1 && nat_lt p 16) = sym (ap (λ ps. has ps p) e) ∙ has-members (record { 0 = a }) p in
    elim (cases_Bool (nat_lt p 16)) [
      | inl t ↦ grind (arith, none, t)
      | inr f ↦ let far : 16 ≤ p = grind (arith, nat_tests) in rw (bit_at_above a 16 p small far) refl
    ])

-- the processes of a set are those of another exactly if the numbers agree
pub members-same : (a b : ℕ) → a < 2 ^ 16 → b < 2 ^ 16 → ((p : ℕ) → has (members (record { 0 = a })) p ≡ has (members (record { 0 = b })) p) → a ≡ b
members-same a b la lb h =
    same_from_bits a b (λ p.
    let sa : bit_at a p < 2 = bit_at-lt a p in
    let sb : bit_at b p < 2 = bit_at-lt b p in
    elim (cases_Bool (nat_lt p 16)) [
      | inl t ↦
          let e : eqb (bit_at a p) 1 ≡ eqb (bit_at b p) 1 = grind (arith, has-members (record { 0 = a }) p, has-members (record { 0 = b }) p, h p, t) in
          grind (arith, nat_tests, e)
      | inr f ↦
          let far : 16 ≤ p = grind (arith, nat_tests) in
          bit_at_above a 16 p la far ∙ sym (bit_at_above b 16 p lb far)
    ])

-- sets share a process exactly if the numbers share a bit
pub meets-and : (a b : ℕ) → a < 2 ^ 16 → b < 2 ^ 16 → meets (members (record { 0 = a })) (members (record { 0 = b })) ≡ true → bit_and a b ≢ 0
meets-and a b la lb m z =
    let r = meets-elim (members (record { 0 = a })) (members (record { 0 = b })) m in
    let ha : eqb (bit_at a r.0) 1 ≡ true = (and_parts (eqb (bit_at a r.0) 1) (nat_lt r.0 16) (sym (has-members (record { 0 = a }) r.0) ∙ r.1)).0 in
    let hb : eqb (bit_at b r.0) 1 ≡ true = (and_parts (eqb (bit_at b r.0) 1) (nat_lt r.0 16) (sym (has-members (record { 0 = b }) r.0) ∙ r.2)).0 in
    let ea : bit_at a r.0 ≡ 1 = eqb-true _ _ ha in
    let eb : bit_at b r.0 ≡ 1 = eqb-true _ _ hb in
    let both : bit_at (bit_and a b) r.0 ≡ min (bit_at a r.0) (bit_at b r.0) = bit_at_and a b r.0 in
    let none : bit_at (bit_and a b) r.0 ≡ 0 = rw (z, bit_at-zero r.0) refl in
    omega arith

pub and-meets : (a b : ℕ) → bit_and a b ≢ 0 → bit_and a b < 2 ^ 16 → meets (members (record { 0 = a })) (members (record { 0 = b })) ≡ true
and-meets a b h small =
    let n : ℕ = bit_and a b in
    let at : ℕ = trailing_zeros w16 n in
    let found = bit_at-trailing_zeros w16 n (omega arith) small in
    let set : bit_at n at ≡ 1 = found.1 in
    let within : at < 16 = found.0 in
    let both : min (bit_at a at) (bit_at b at) ≡ 1 = sym (bit_at_and a b at) ∙ set in
    let la : bit_at a at < 2 = bit_at-lt a at in
    let lb : bit_at b at < 2 = bit_at-lt b at in
    let low : nat_lt at 16 ≡ true = grind (arith, nat_tests) in
    let ha : eqb (bit_at a at) 1 ≡ true = eq-eqb _ _ (omega arith) in
    let hb : eqb (bit_at b at) 1 ≡ true = eq-eqb _ _ (omega arith) in
    meets-intro (members (record { 0 = a })) (members (record { 0 = b })) at
    (has-members (record { 0 = a }) at ∙ rw (ha, low) refl) (has-members (record { 0 = b }) at ∙ rw (hb, low) refl)

-- a range with one number more
pub range-more : (a n : ℕ) → range_with_len a (n + 1) ≡ range_with_len a n ++ (a + n) ∷ []
range-more a zero = grind (arith)
range-more a (suc n) = let ih = range-more (a + 1) n in grind (arith, ih)

zero-plus : (n : ℕ) → 0 + n ≡ n
zero-plus n = omega arith

pub range-below-more : (n : ℕ) → range_with_len 0 (n + 1) ≡ range_with_len 0 n ++ n ∷ []
range-below-more n = range-more 0 n ∙ ap (λ k. range_with_len 0 n ++ k ∷ []) (zero-plus n)

-- the numbers below n + 1 that pass a test, from those below n
pub filter-range-more : (test : ℕ → Bool) (n : ℕ) → filter test (range_with_len 0 (n + 1)) ≡ filter test (range_with_len 0 n) ++ cond (test n) (n ∷ []) []
filter-range-more test n = ap (filter test) (range-below-more n) ∙ filter-append test (range_with_len 0 n) (n ∷ [])

-- the processes below n + 1, from those below n
pub members_below-zero : (s : Procs) → members_below s 0 ≡ []
unfolding members_below
members_below-zero s = refl

pub members_below-more : (s : Procs) (n : ℕ) → n < 16 → members_below s (n + 1) ≡ members_below s n ++ cond (has (members s) n) (n ∷ []) []
unfolding members_below
members_below-more s n h =
    let low : nat_lt n 16 ≡ true = grind (arith, nat_tests) in
    let same : has (members s) n ≡ eqb (bit_at s.0 n) 1 = has-members s n ∙ rw low (and-true (eqb (bit_at s.0 n) 1)) in
    filter-range-more (λ q. eqb (bit_at s.0 q) 1) n ∙ ap (λ b. filter (λ q. eqb (bit_at s.0 q) 1) (range_with_len 0 n) ++ cond b (n ∷ []) []) (sym same)

one_or_none : (b : Bool) (a : ℕ) → length (cond b (a ∷ []) []) ≡ cond b 1 0
one_or_none true a = refl
one_or_none false a = refl

pub length-members_below-more : (s : Procs) (n : ℕ) → n < 16 → length (members_below s (n + 1)) ≡ length (members_below s n) + cond (has (members s) n) 1 0
length-members_below-more s n h =
    ap length (members_below-more s n h) ∙ length-append (members_below s n) (cond (has (members s) n) (n ∷ []) [])
    ∙ ap (λ k. length (members_below s n) + k) (one_or_none (has (members s) n) n)

-- a set of which no process below 16 is a member is empty
pub members-empty : (s : Procs) → ((p : ℕ) → p < 16 → has (members s) p ≡ false) → members s ≡ []
members-empty s h =
    nothing-empty (members s) (λ p.
    elim (cases_Bool (nat_lt p 16)) [
      | inl t ↦ h p (grind (arith, nat_tests))
      | inr f ↦ has-members s p ∙ rw f (and-false (eqb (bit_at s.0 p) 1))
    ])

-- those below a number are those below an earlier one, where none lies between
pub members_below-skip : (s : Procs) (p q : ℕ) → p ≤ q → q ≤ 16 → ((r : ℕ) → p ≤ r → r < q → has (members s) r ≡ false) →
    members_below s q ≡ members_below s p
members_below-skip s p zero le few none = let e : p ≡ 0 = omega arith in ap (members_below s) (sym e)
members_below-skip s p (suc q) le few none =
    elim (cases_eq p (suc q)) [
      | inl e ↦ ap (members_below s) (sym e)
      | inr ne ↦
          let out : has (members s) q ≡ false = none q (omega arith) (omega arith) in
          let same : members_below s q ++ cond (has (members s) q) (q ∷ []) [] ≡ members_below s q =
          ap (λ xs. members_below s q ++ xs) (cond-false (has (members s) q) (q ∷ []) [] out) ∙ append-nil (members_below s q) in
          ap (members_below s) (sym (add-one q)) ∙ members_below-more s q (omega arith) ∙ same
          ∙ members_below-skip s p q (omega arith) (omega arith) (λ r l h. none r l (omega arith))
    ]

-- those below the next of the set, from those below a start
pub members_below-next : (s : Procs) (start p : ℕ) → p < 16 → IsLeastFrom (members s) start p → members_below s (p + 1) ≡ members_below s start ++ p ∷ []
members_below-next s start p small l =
    members_below-more s p small ∙ ap (λ b. members_below s p ++ cond b (p ∷ []) []) l.inside
    ∙ ap (λ ps. ps ++ p ∷ []) (members_below-skip s start p l.after (omega arith) l.below)

-- where none is left from a start on, those below it are all
pub members_below-all : (s : Procs) (start : ℕ) → start ≤ 16 → ((p : ℕ) → start ≤ p → has (members s) p ≡ false) → members_below s start ≡ members s
members_below-all s start few none = sym (members_below-skip s start 16 few (omega arith) (λ r l h. none r l))

-- a bit of a number that was shifted to the right
bit_at-shr : (n k i : ℕ) → k ≤ i → bit_at n i ≡ bit_at (n / 2 ^ k) (i - k)
bit_at-shr n k i l =
    let e : i ≡ k + (i - k) = omega arith in
    ap (bit_at n) e ∙ ap (λ x. x % 2) (sym (shr-shr n k (i - k)))

-- where nothing is left after the shift, there is no process from there on
pub none-from : (s : Procs) (start : ℕ) → s.0 / 2 ^ start ≡ 0 → (p : ℕ) → start ≤ p → has (members s) p ≡ false
none-from s start z p l =
    let off : bit_at s.0 p ≡ 0 = bit_at-shr s.0 start p l ∙ ap (λ n. bit_at n (p - start)) z ∙ bit_at-zero (p - start) in
    has-members s p ∙ rw off refl

-- else the lowest bit that is left tells the least
pub least-from : (s : Procs) (start : ℕ) → s.0 < 2 ^ 16 → 0 < s.0 / 2 ^ start → IsLeastFrom (members s) start (start + trailing_zeros w32 (s.0 / 2 ^ start))
least-from s start small some =
    let n : ℕ = s.0 / 2 ^ start in
    let at : ℕ = trailing_zeros w32 n in
    let le : n ≤ s.0 = shr_le s.0 start in
    let found = bit_at-trailing_zeros w32 n some (omega arith) in
    let there : start + at - start ≡ at = omega arith in
    let set : bit_at s.0 (start + at) ≡ 1 = bit_at-shr s.0 start (start + at) (omega arith) ∙ ap (bit_at n) there ∙ found.1 in
    let low : nat_lt (start + at) 16 ≡ true =
    elim (cases_Bool (nat_lt (start + at) 16)) [
      | inl t ↦ t
      | inr f ↦
          let far : 16 ≤ start + at = grind (arith, nat_tests) in
          absurd (let none : bit_at s.0 (start + at) ≡ 0 = bit_at_above s.0 16 (start + at) small far in omega arith)
    ] in
    record {
      inside = has-members s (start + at) ∙ rw (set, low) refl;
      after = omega arith;
      below = λ q from to.
          let off : bit_at s.0 q ≡ 0 = bit_at-shr s.0 start q from ∙ found.2 (q - start) (omega arith) in
          has-members s q ∙ rw off refl;
    }

-- the least from 0 on is the least
pub least-of-all : (s : Procs) (o : Option ℕ) → MatchOption o ((p : ℕ) → 0 ≤ p → has (members s) p ≡ false) (IsLeastFrom (members s) 0) →
    MatchOption o (members s ≡ []) (IsLeastOf (members s))
least-of-all s None h = members-empty s (λ p l. h p (omega arith))
least-of-all s (Some p) h = record { inside = h.inside; below = λ q l. h.below q (omega arith) l }

-- The value of a word by following places is the set of places at which a list of places that spells it ends.
use Rattle.std.proofs.Common.{◌≡◌, ℕ, zero, suc, ◌+◌, ◌<◌, ◌≤◌, Bool, true, false, ◌&&◌, inl, inr, List, [], ◌∷◌, ◌++◌, ◌==◌, map, refl, sym, ap, subst, ◌∙◌}
use Rattle.std.proofs.Common.{arith, eqb-true, eq-eqb}
use Rattle.std.specs.List.{list_any, range_with_len, filter}
use Rattle.std.proofs.lemmas.Bool.{or_cases, or_left, or_right, and_parts, and_from, cases_Bool, cond-true, cond-false, eqb-false}
use Rattle.za_expression.specs.Plain.{Plain}
use Rattle.za_alpha.specs.Words.{has}
use Rattle.za_dfa.specs.Automata.{walk}
use Rattle.za_expression.specs.Following.{leads, step}
use Rattle.za_expression.specs.Private.Ordered.{Within}
use Rattle.za_expression.proofs.Follow.{Lies}
use Rattle.za_expression.proofs.Rests.{Rest, rest_leads, leads_rest, leads_lies, rest_after, after_rest}

-- lists as sets
pub has-own : (p : ℕ) (ps : List ℕ) → has (p ∷ ps) p ≡ true
has-own p ps = or_left (p == p) (has ps p) (eq-eqb p p refl)

pub any_from : (test : ℕ → Bool) (ps : List ℕ) (p : ℕ) → has ps p ≡ true → test p ≡ true → list_any test ps ≡ true
any_from test [] p h t = cc
any_from test (q ∷ ps) p h t =
    elim (or_cases (q == p) (has ps p) h) [
      | inl l ↦ or_left (test q) (list_any test ps) (subst (λ x. test x ≡ true) (sym (eqb-true q p l)) t)
      | inr r ↦ or_right (test q) (list_any test ps) (any_from test ps p r t)
    ]

pub any_to : (test : ℕ → Bool) (ps : List ℕ) → list_any test ps ≡ true → (p : ℕ) × (has ps p ≡ true) × (test p ≡ true)
any_to test [] h = cc
any_to test (q ∷ ps) h =
    elim (or_cases (test q) (list_any test ps) h) [
      | inl l ↦ (q, has-own q ps, l)
      | inr r ↦ let k = any_to test ps r in (k.0, or_right (q == k.0) (has ps k.0) k.1, k.2)
    ]

pub filter_to : (test : ℕ → Bool) (ps : List ℕ) (p : ℕ) → has (filter test ps) p ≡ true → (has ps p ≡ true) × (test p ≡ true)
filter_to test [] p h = cc
filter_to test (q ∷ ps) p h =
    elim (cases_Bool (test q)) [
      | inl t ↦
          let k : has (q ∷ filter test ps) p ≡ true = subst (λ x. has x p ≡ true) (cond-true (test q) (q ∷ filter test ps) (filter test ps) t) h in
          elim (or_cases (q == p) (has (filter test ps) p) k) [
            | inl l ↦ (or_left (q == p) (has ps p) l, subst (λ x. test x ≡ true) (eqb-true q p l) t)
            | inr r ↦ let s = filter_to test ps p r in (or_right (q == p) (has ps p) s.0, s.1)
          ]
      | inr t ↦
          let k : has (filter test ps) p ≡ true = subst (λ x. has x p ≡ true) (cond-false (test q) (q ∷ filter test ps) (filter test ps) t) h in
          let s = filter_to test ps p k in (or_right (q == p) (has ps p) s.0, s.1)
    ]

pub filter_from : (test : ℕ → Bool) (ps : List ℕ) (p : ℕ) → has ps p ≡ true → test p ≡ true → has (filter test ps) p ≡ true
filter_from test [] p h t = cc
filter_from test (q ∷ ps) p h t =
    elim (or_cases (q == p) (has ps p) h) [
      | inl l ↦
          let e = eqb-true q p l in
          let u : test q ≡ true = subst (λ x. test x ≡ true) (sym e) t in
          subst (λ x. has x p ≡ true) (sym (cond-true (test q) (q ∷ filter test ps) (filter test ps) u)) (or_left (q == p) (has (filter test ps) p) l)
      | inr r ↦
          let k = filter_from test ps p r t in
          elim (cases_Bool (test q)) [
            | inl u ↦ subst (λ x. has x p ≡ true) (sym (cond-true (test q) (q ∷ filter test ps) (filter test ps) u))
                (or_right (q == p) (has (filter test ps) p) k)
            | inr u ↦ subst (λ x. has x p ≡ true) (sym (cond-false (test q) (q ∷ filter test ps) (filter test ps) u)) k
          ]
    ]

pub range_to : (a n p : ℕ) → has (range_with_len a n) p ≡ true → Lies a p (a + n)
range_to a zero p h = cc
range_to a (suc n) p h =
    elim (or_cases (a == p) (has (range_with_len (a + 1) n) p) h) [
      | inl l ↦ let e = eqb-true a p l in record { from = omega arith; below = omega arith }
      | inr r ↦ let k = range_to (a + 1) n p r in let x = k.from in let y = k.below in record { from = omega arith; below = omega arith }
    ]

pub range_from : (a n p : ℕ) → a ≤ p → p < a + n → has (range_with_len a n) p ≡ true
range_from a zero p l k = absurd (omega arith)
range_from a (suc n) p l k =
    elim (cases_Bool (a == p)) [
      | inl e ↦ or_left (a == p) (has (range_with_len (a + 1) n) p) e
      | inr e ↦ or_right (a == p) (has (range_with_len (a + 1) n) p) (range_from (a + 1) n p (above e) (omega arith))
    ]
  where
    above : (a == p) ≡ false → a + 1 ≤ p
    above e = grind (arith, eqb-false)

-- l leads from s to p, over places from 1 to n
abbrev pub Path : (ℕ → ℕ → Bool) → ℕ → ℕ → List ℕ → ℕ → Type 0
Path leads n s [] p = s ≡ p
Path leads n s (q ∷ l) p = (leads s q ≡ true) × Lies 1 q (1 + n) × Path leads n q l p

-- a path from one of the places
pub record Reached (leads : ℕ → ℕ → Bool) (letter : ℕ → ℕ) (n : ℕ) (places : List ℕ) (u : List ℕ) (p : ℕ) : Type 0 where
  pub source : ℕ
  pub path : List ℕ
  pub in_places : has places source ≡ true
  pub spells : map letter path ≡ u
  pub leads_to : Path leads n source path p

pub walk_to : (leads : ℕ → ℕ → Bool) (letter : ℕ → ℕ) (n : ℕ) (places u : List ℕ) (p : ℕ) → has (walk (step leads letter n) places u) p ≡ true →
    Reached leads letter n places u p
walk_to leads letter n places [] p h = record { source = p; path = []; in_places = h; spells = refl; leads_to = refl }
walk_to leads letter n places (a ∷ u) p h =
    let k = walk_to leads letter n (step leads letter n places a) u p h in
    let f = filter_to (λ q. letter q == a && list_any (λ s. leads s q) places) (range_with_len 1 n) k.source k.in_places in
    let b = and_parts (letter k.source == a) (list_any (λ s. leads s k.source) places) f.1 in
    let s = any_to (λ s. leads s k.source) places b.1 in
    let e = eqb-true (letter k.source) a b.0 in
    record {
      source = s.0;
      path = k.source ∷ k.path;
      in_places = s.1;
      spells = ap (λ x. x ∷ map letter k.path) e ∙
          ap (λ x. a ∷ x) k.spells;
      leads_to = (s.2, range_to 1 n k.source f.0, k.leads_to);
    }

pub walk_from : (leads : ℕ → ℕ → Bool) (letter : ℕ → ℕ) (n : ℕ) (l places : List ℕ) (s p : ℕ) → has places s ≡ true → Path leads n s l p →
    has (walk (step leads letter n) places (map letter l)) p ≡ true
walk_from leads letter n [] places s p h k = subst (λ x. has places x ≡ true) k h
walk_from leads letter n (q ∷ l) places s p h k =
    walk_from leads letter n l (step leads letter n places (letter q)) q p
    (filter_from (λ r. letter r == letter q && list_any (λ t. leads t r) places) (range_with_len 1 n) q (range_from 1 n q k.1.from k.1.below)
    (and_from (letter q == letter q) (list_any (λ t. leads t q) places) (eq-eqb (letter q) (letter q) refl) (any_from (λ t. leads t q) places s h k.0)))
    k.2

-- paths are the beginnings of rests
pub path_last : (low : ℕ) (e : Plain) (high n s : ℕ) (l w : List ℕ) (p : ℕ) → 1 ≤ low → Within low e high → Path (leads e) n s l p → Rest e p w →
    Rest e s (l ++ w)
path_last low e high n s [] w p one within k r = subst (λ x. Rest e x w) (sym k) r
path_last low e high n s (q ∷ l) w p one within k r =
    leads_rest low e high s q (l ++ w) within k.0 (rest_after e q (l ++ w) k.1.from (path_last low e high n q l w p one within k.2 r))

pub path_from : (low : ℕ) (e : Plain) (high n s : ℕ) (l w : List ℕ) → 1 ≤ low → high ≤ 1 + n → Within low e high → Rest e s (l ++ w) →
    (p : ℕ) × Path (leads e) n s l p × Rest e p w
path_from low e high n s [] w one fits within r = (s, refl, r)
path_from low e high n s (q ∷ l) w one fits within r =
    let k = rest_leads e s q (l ++ w) r in
    let lies = leads_lies low e high s q within k.0 in
    let a = lies.from in let b = lies.below in
    let here : Lies 1 q (1 + n) = record { from = omega arith; below = omega arith } in
    let t = path_from low e high n q l w one fits within (after_rest e q (l ++ w) here.from k.1) in
    (t.0, (k.0, here, t.1), t.2)

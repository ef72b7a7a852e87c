-- Which states of an automaton are reached from its start.
use Rattle.std.proofs.Common.{◌≡◌, ℕ, zero, suc, ◌+◌, ◌<◌, ◌≤◌, Bool, true, false, ◌&&◌, ◌||◌, ◌==◌, inl, inr, List, [], ◌∷◌, ◌++◌, if◌then◌else◌, refl, sym}
use Rattle.std.proofs.Common.{ap, subst, ◌∙◌, arith, eqb-true, eq-eqb}
use Rattle.std.specs.List.{range_with_len, list_any}
use Rattle.std.proofs.lemmas.Bool.{cases_eq, or_left, or_right, or_cases, and_parts, and_from}
use Rattle.std.proofs.lemmas.List.Elements.{All-nil}
use Rattle.za_alpha.specs.Words.{IsWord}
use Rattle.za_order.proofs.NextLetter.{word-next}
use Rattle.za_order.proofs.Sets.{any-where}
use Rattle.za_order.proofs.Ranges.{range-below, any-at}
use Rattle.za_dfa.specs.Automata.{Automaton, IsTotal, walk}
use Rattle.za_dfa.proofs.Diamonds.{walk-append}

-- one for what passes
abbrev one : Bool → ℕ
one b = if b then 1 else 0

-- how many numbers below n pass the test
abbrev count : (ℕ → Bool) → ℕ → ℕ
count f zero = 0
count f (suc n) = count f n + one (f n)

one-le : (a b : Bool) → (a ≡ true → b ≡ true) → one a ≤ one b
one-le true true h = omega arith
one-le true false h = absurd (let t = h refl in cc)
one-le false true h = omega arith
one-le false false h = omega arith

one-most : (a : Bool) → one a ≤ 1
one-most true = omega arith
one-most false = omega arith

one-same : (a b : Bool) → one a ≡ one b → a ≡ b
one-same true true e = refl
one-same true false e = absurd (omega arith)
one-same false true e = absurd (omega arith)
one-same false false e = refl

count-most : (f : ℕ → Bool) (n : ℕ) → count f n ≤ n
count-most f zero = omega arith
count-most f (suc n) = let a = count-most f n in let b = one-most (f n) in omega arith

count-le : (f g : ℕ → Bool) (n : ℕ) → ((k : ℕ) → f k ≡ true → g k ≡ true) → count f n ≤ count g n
count-le f g zero h = omega arith
count-le f g (suc n) h = let a = count-le f g n h in let b = one-le (f n) (g n) (h n) in omega arith

-- tests of which one implies the other are the same where as many pass
count-same : (f g : ℕ → Bool) (n : ℕ) → ((k : ℕ) → f k ≡ true → g k ≡ true) → count g n ≡ count f n → (k : ℕ) → k < n → g k ≡ f k
count-same f g zero h e k l = absurd (omega arith)
count-same f g (suc n) h e k l =
    let a = count-le f g n h in
    let b = one-le (f n) (g n) (h n) in
    elim (cases_eq k n) [
      | inl s ↦ subst (λ v. g v ≡ f v) (sym s) (one-same (g n) (f n) (omega arith))
      | inr d ↦ count-same f g n h (omega arith) k (omega arith)
    ]

module _ (m : Automaton) (total : IsTotal m) where
  -- whether at most k letters lead from the start to q
  abbrev pub reach : ℕ → ℕ → Bool
  reach zero q = m.start == q
  reach (suc k) q = reach k q || list_any (λ r. reach k r && list_any (λ a. m.step r a == q) (range_with_len 0 m.letters)) (range_with_len 0 m.states)

  more : (k q : ℕ) → reach k q ≡ true → reach (suc k) q ≡ true
  more k q h = or_left (reach k q) (list_any (λ r. reach k r && list_any (λ a. m.step r a == q) (range_with_len 0 m.letters)) (range_with_len 0 m.states)) h

  -- from some number of letters on no more are reached
  stable-from : (fuel k : ℕ) → m.states < count (reach k) m.states + fuel → (k : ℕ) × ((q : ℕ) → q < m.states → reach (suc k) q ≡ reach k q)
  stable-from zero k l = absurd (let c = count-most (reach k) m.states in omega arith)
  stable-from (suc fuel) k l =
      elim (cases_eq (count (reach (suc k)) m.states) (count (reach k) m.states)) [
        | inl e ↦ (k, count-same (reach k) (reach (suc k)) m.states (more k) e)
        | inr d ↦ stable-from fuel (suc k) (let c = count-le (reach k) (reach (suc k)) m.states (more k) in omega arith)
      ]

  pub stable : (k : ℕ) × ((q : ℕ) → q < m.states → reach (suc k) q ≡ reach k q)
  stable = stable-from (suc m.states) 0 (omega arith)

  pub start-reached : (k : ℕ) → reach k m.start ≡ true
  start-reached zero = eq-eqb m.start m.start refl
  start-reached (suc k) = more k m.start (start-reached k)

  -- each letter leads from what is reached to what is reached
  pub step-reached : (k q a : ℕ) → ((q : ℕ) → q < m.states → reach (suc k) q ≡ reach k q) → q < m.states → a < m.letters → reach k q ≡ true →
      reach k (m.step q a) ≡ true
  step-reached k q a s lq la h =
      let to : ℕ = m.step q a in
      let leads : ℕ → Bool = λ r. list_any (λ a. m.step r a == to) (range_with_len 0 m.letters) in
      sym (s to (total.steps q a lq la))
      ∙ or_right (reach k to) (list_any (λ r. reach k r && leads r) (range_with_len 0 m.states))
      (any-at (λ r. reach k r && leads r) m.states q lq (and_from (reach k q) (leads q) h (any-at (λ a. m.step q a == to) m.letters a la (eq-eqb to to refl))))

  -- and a word leads there
  pub reached-by : (k q : ℕ) → reach k q ≡ true → (w : List ℕ) × IsWord m.letters w × (walk m.step m.start w ≡ q)
  reached-by zero q h = ([], All-nil (λ a. a < m.letters), eqb-true m.start q h)
  reached-by (suc k) q h =
      elim (or_cases (reach k q) (list_any (λ r. reach k r && list_any (λ a. m.step r a == q) (range_with_len 0 m.letters)) (range_with_len 0 m.states)) h) [
        | inl t ↦ reached-by k q t
        | inr t ↦
            let r = any-where (λ r. reach k r && list_any (λ a. m.step r a == q) (range_with_len 0 m.letters)) (range_with_len 0 m.states) t in
            let p = and_parts (reach k r.0) (list_any (λ a. m.step r.0 a == q) (range_with_len 0 m.letters)) r.2 in
            let a = any-where (λ a. m.step r.0 a == q) (range_with_len 0 m.letters) p.1 in
            let w = reached-by k r.0 p.0 in (
              w.0 ++ a.0 ∷ [],
              word-next m.letters w.0 a.0 w.1 (range-below m.letters a.0 a.1),
              walk-append m.step m.start w.0 (a.0 ∷ []) ∙ ap (λ v. m.step v a.0) w.2 ∙ eqb-true (m.step r.0 a.0) q a.2,
            )
      ]

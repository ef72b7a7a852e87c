-- Steps of the rounds as they are computed.
use Rattle.std.proofs.Common.{◌≡◌, ◌≢◌, ℕ, suc, ◌+◌, ◌-◌, ◌<◌, ◌≤◌, Bool, true, false, inl, inr, List, [], ◌∷◌, length, slice_index, get_or, refl, sym, ap, ◌∙◌}
use Rattle.std.proofs.Common.{arith, ◌++◌, map}
use Rattle.std.specs.List.{range_with_len}
use Rattle.std.proofs.lemmas.Bool.{cases_eq, false_from_ne_true}
use Rattle.std.proofs.lemmas.List.{get_or_read}
use Rattle.std.proofs.lemmas.List.FromFn.{get_or-map-range_with_len, length-map-range_with_len, map-range_with_len_more}
use Rattle.std.proofs.Math.Bool.{beq}
use Rattle.za_dfa.specs.Automata.{Automaton}
use Rattle.za_dfa.specs.Tables.{CompleteDfa, automaton_of}
use Rattle.za_min.specs.Minimal.{word_at}
use Rattle.za_min.specs.Private.Rounds.{are_same, same_next, rounds, AreRounds, AreRoundsOf, AreClassesOf}
use Rattle.za_min.proofs.RoundLemmas.{next-parts, rounds-grow, rounds-le, length-rounds}

-- answers that are equal are the same
pub same-beq : (a b : Bool) → beq a b ≡ are_same a b
same-beq true true = refl
same-beq true false = refl
same-beq false true = refl
same-beq false false = refl

-- a letter that leads into two classes
pub not-same-next : (d : Automaton) (c : List ℕ) (q r a : ℕ) → a < d.letters → slice_index c (d.step q a) ≢ slice_index c (d.step r a) →
    false ≡ same_next d c q r
not-same-next d c q r a l n = sym (false_from_ne_true (same_next d c q r) (λ h. n ((next-parts d c q r h).1 a l)))

-- one class more
pub class-more : (f : ℕ → ℕ) (q x : ℕ) (xs ys : List ℕ) → ys ≡ xs ++ x ∷ [] → xs ≡ map f (range_with_len 0 q) → x ≡ f q → ys ≡ map f (range_with_len 0 (q + 1))
class-more f q x xs ys e h is = e ∙ ap (λ zs. zs ++ x ∷ []) h ∙ ap (λ y. map f (range_with_len 0 q) ++ y ∷ []) is
    ∙ sym (map-range_with_len_more f 0 q q (omega arith))

-- how far the classes are from n
abbrev pub gap : ℕ → List ℕ → ℕ
gap n [] = 0
gap n (x ∷ xs) = (n - x) + gap n xs

gap-le : (n : ℕ) (xs ys : List ℕ) → length xs ≡ length ys → ((k : ℕ) → k < length xs → slice_index xs k ≤ slice_index ys k) → gap n ys ≤ gap n xs
gap-le n [] [] e h = omega arith
gap-le n [] (y ∷ ys) e h = absurd (omega arith)
gap-le n (x ∷ xs) [] e h = absurd (omega arith)
gap-le n (x ∷ xs) (y ∷ ys) e h =
    let a = h 0 (omega arith) in
    let b = gap-le n xs ys (omega arith) (λ k l. h (suc k) (omega arith)) in omega arith

gap-less : (n : ℕ) (xs ys : List ℕ) → length xs ≡ length ys → ((k : ℕ) → k < length xs → (slice_index xs k ≤ slice_index ys k) × (slice_index ys k ≤ n)) →
    xs ≢ ys → gap n ys < gap n xs
gap-less n [] [] e h ne = absurd (ne refl)
gap-less n [] (y ∷ ys) e h ne = absurd (omega arith)
gap-less n (x ∷ xs) [] e h ne = absurd (omega arith)
gap-less n (x ∷ xs) (y ∷ ys) e h ne =
    let a = h 0 (omega arith) in
    let a0 = a.0 in
    let a1 = a.1 in
    elim (cases_eq x y) [
      | inl s ↦ let b = gap-less n xs ys (omega arith) (λ k l. h (suc k) (omega arith)) (λ t. ne (ap (λ z. z ∷ xs) s ∙ ap (λ zs. y ∷ zs) t)) in omega arith
      | inr d ↦ let b = gap-le n xs ys (omega arith) (λ k l. (h (suc k) (omega arith)).0) in omega arith
    ]

-- a round that changes something brings the classes nearer to the number of states
pub round-nearer : (d : Automaton) (k : ℕ) → rounds d k ≢ rounds d (suc k) → gap d.states (rounds d (suc k)) < gap d.states (rounds d k)
round-nearer d k n =
    let l0 = length-rounds d k in
    let l1 = length-rounds d (suc k) in
    gap-less d.states (rounds d k) (rounds d (suc k)) (l0 ∙ sym l1) (λ q l.
    let ql : q < d.states = omega arith in
    let b = rounds-le d (suc k) q ql in (rounds-grow d k q ql, omega arith)) n

-- a row is the classes of its round
pub row-is : (d : Automaton) (rows : List (List ℕ)) (r : AreRounds d rows) (k : ℕ) → k < length rows → word_at rows k ≡ rounds d k
row-is d rows r k l =
    let long : length rows ≡ r.last + 1 = ap length r.rows_each ∙ length-map-range_with_len (rounds d) 0 (r.last + 1) in
    ap (λ xs. word_at xs k) r.rows_each ∙ get_or-map-range_with_len (rounds d) 0 (r.last + 1) k k [] (omega arith) (omega arith)

pub rows-long : (d : Automaton) (rows : List (List ℕ)) (r : AreRounds d rows) → length rows ≡ r.last + 1
rows-long d rows r = ap length r.rows_each ∙ length-map-range_with_len (rounds d) 0 (r.last + 1)

-- the last row is of classes that no round changes
pub last-classes : (dfa : CompleteDfa) (rows : List (List ℕ)) (n : ℕ) (c : List ℕ) → AreRoundsOf dfa rows → n ≡ length rows → c ≡ get_or rows (n - 1) c →
    AreClassesOf dfa c
last-classes dfa rows n c r e is =
    let d = automaton_of dfa in
    let long = rows-long d rows r.rounds in
    let within : n - 1 < length rows = omega arith in
    let last : n - 1 ≡ r.rounds.last = omega arith in
    record {
      whole = r.whole;
      stable = record {
        round = r.rounds.last;
        is = get_or_read rows (n - 1) c within is [] ∙ row-is d rows r.rounds (n - 1) within
            ∙ ap (rounds d) last;
        stable = r.rounds.stable;
      };
    }

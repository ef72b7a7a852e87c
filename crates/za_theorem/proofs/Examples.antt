-- The definitions at small values, and examples that show that no premise of the laws can be left out.
use Rattle.std.proofs.Common.{◌≡◌, ℕ, zero, suc, ◌+◌, ◌<◌, Bool, true, false, ◌==◌, List, [], ◌∷◌, ◌++◌, get_or, map, replicate, if◌then◌else◌, refl, sym, ap}
use Rattle.std.proofs.Common.{subst, ◌∙◌, arith, eqb-true, eq-eqb}
use Rattle.std.specs.Prelude.{filter}
use Rattle.std.specs.List.{range_with_len}
use Rattle.std.proofs.lemmas.List.Elements.{All-nil, All-cons, All-append}
use Rattle.std.proofs.lemmas.List.FromFn.{length-map-range_with_len}
use Rattle.za_alpha.specs.Words.{has, IsWord, AreEquivalent}
use Rattle.za_alpha.specs.Search.{least}
use Rattle.za_alpha.proofs.Swaps.{swap-sound}
use Rattle.za_alpha.proofs.Least.{least-true, least-le}
use Rattle.za_order.proofs.Sets.{has-map, any-here, in-range}
use Rattle.za_order.proofs.Least.{pigeonhole}
use Rattle.za_dfa.specs.Automata.{Automaton, IsTotal, walk, is_accepted, HasDiamonds}
use Rattle.za_dfa.proofs.Diamonds.{walk-append, walk-below}
use Rattle.za_theorem.specs.Asynchronous.{Asynchronous, moved, accepts_word}
use Rattle.za_theorem.specs.Languages.{Accepts, IsRegular, IsDiamondRegular, IsClosedLanguage, IsDistributable}
use Rattle.za_theorem.specs.Codes.{joined}
use Rattle.za_theorem.proofs.SetNumbers.{bit-below}
use Rattle.za_theorem.proofs.Moves.{asynchronous_is_closed}
use Rattle.za_theorem.proofs.Exactly.{to-closed}

-- two processes, each with a letter of its own, 0 and 1, and a letter 2 of both
abbrev both : ℕ → List ℕ
both zero = 0 ∷ []
both (suc zero) = 1 ∷ []
both (suc (suc a)) = 0 ∷ 1 ∷ []

-- each process has a 1 after a letter of its own, and at the letter of both each has whether they differed
abbrev turns : Asynchronous
turns = record {
  states = λ p. 2;
  start = λ p. 0;
  next = λ a xs p. if a == 2 then (if get_or xs 0 0 == get_or xs 1 0 then 0 else 1) else 1;
  accepts = λ xs. get_or xs 0 0 == get_or xs 1 0;
}

-- a letter of one process moves that one alone
one-alone : accepts_word both 2 turns (0 ∷ []) ≡ false
one-alone = refl

either-order : accepts_word both 2 turns (0 ∷ 1 ∷ []) ≡ true
either-order = refl

other-order : accepts_word both 2 turns (1 ∷ 0 ∷ []) ≡ true
other-order = refl

-- at the letter of both each is told of the other's local state
told : accepts_word both 2 turns (0 ∷ 2 ∷ []) ≡ true
told = refl

-- numbers below 2 and 3 as one number below 6
digits-example : joined (2 ∷ 3 ∷ []) (1 ∷ 2 ∷ []) ≡ 5
digits-example = refl

-- the letters of the two processes can be swapped
word-one : IsWord 2 (0 ∷ 1 ∷ [])
word-one = All-cons (λ a. a < 2) 0 (1 ∷ []) (omega arith) (All-cons (λ a. a < 2) 1 [] (omega arith) (All-nil (λ a. a < 2)))

word-two : IsWord 2 (1 ∷ 0 ∷ [])
word-two = All-cons (λ a. a < 2) 1 (0 ∷ []) (omega arith) (All-cons (λ a. a < 2) 0 [] (omega arith) (All-nil (λ a. a < 2)))

swapped : AreEquivalent both (0 ∷ 1 ∷ []) (1 ∷ 0 ∷ [])
swapped = swap-sound both (0 ∷ 1 ∷ []) (1 ∷ 0 ∷ []) (record { before = []; left = 0; right = 1; after = []; apart = refl; from = refl; to = refl })

-- so a language with one of these words alone is not trace-closed
one-alone-open : (language : List ℕ → Bool) → language (0 ∷ 1 ∷ []) ≡ true → language (1 ∷ 0 ∷ []) ≡ false → IsClosedLanguage both 2 language → ⊥
one-alone-open language h k closed = let e : true ≡ false = sym h ∙ closed (0 ∷ 1 ∷ []) (1 ∷ 0 ∷ []) word-one word-two swapped ∙ k in cc

-- without a diamond: the automaton that knows the last letter is complete, and its language is not trace-closed
abbrev last : Automaton
last = record { states = 2; letters = 2; start = 0; step = λ q a. a; accepts = λ q. q == 1 }

last-total : IsTotal last
last-total = record { starts = omega arith; steps = λ q a l m. m }

last-broken : HasDiamonds both last → ⊥
last-broken h = let e : true ≡ false = ap last.accepts (h 0 0 1 (omega arith) (omega arith) (omega arith) refl) in cc

last-open : IsClosedLanguage both 2 (is_accepted last) → ⊥
last-open = one-alone-open (is_accepted last) refl refl

last-not : IsDistributable both 2 2 (is_accepted last) → ⊥
last-not h = last-open (to-closed both 2 2 (is_accepted last) h)

-- moves by the local states of all processes, also of those that take no part: the language is not trace-closed
abbrev peeked : (ℕ → List ℕ) → ℕ → Asynchronous → (ℕ → ℕ) → ℕ → ℕ → ℕ
peeked loc processes z g a p = if has (loc a) p then z.next a (map g (range_with_len 0 processes)) p else g p

abbrev peeking : Asynchronous
peeking = record {
  states = λ p. 2;
  start = λ p. 0;
  next = λ a xs p. if p == 0 then 1 else get_or xs 0 0;
  accepts = λ xs. get_or xs 1 0 == 1;
}

abbrev peeks : List ℕ → Bool
peeks w = peeking.accepts (map (walk (peeked both 2 peeking) peeking.start w) (range_with_len 0 2))

peeks-open : IsClosedLanguage both 2 peeks → ⊥
peeks-open = one-alone-open peeks refl refl

-- the words of one letter with an even length
abbrev parity : Automaton
parity = record { states = 2; letters = 1; start = 0; step = λ q a. if q == 0 then 1 else 0; accepts = λ q. q == 0 }

parity-total : IsTotal parity
parity-total = record { starts = omega arith; steps = λ q a l m. bit-below (q == 0) }

abbrev is_even : List ℕ → Bool
is_even w = is_accepted parity w

parity-accepts : Accepts 1 parity is_even
parity-accepts = record { same_letters = refl; total = parity-total; words = λ w word. refl }

word-of-one : IsWord 1 (0 ∷ [])
word-of-one = All-cons (λ a. a < 1) 0 [] (omega arith) (All-nil (λ a. a < 1))

-- who can't tell the word of one letter from the word of none doesn't accept them
even-told : (loc : ℕ → List ℕ) (n : ℕ) → ((z : Asynchronous) → accepts_word loc n z [] ≡ accepts_word loc n z (0 ∷ [])) → IsDistributable loc 1 n is_even → ⊥
even-told loc n same h = let e : true ≡ false = sym (h.1.words [] (All-nil (λ a. a < 1))) ∙ same h.0 ∙ h.1.words (0 ∷ []) word-of-one in cc

-- a letter whose one participant is none of the processes: the language is regular and trace-closed, and no
-- asynchronous automaton accepts it
abbrev elsewhere : ℕ → List ℕ
elsewhere a = 0 ∷ []

all-seen : (w : List ℕ) → filter (λ a. has (elsewhere a) 0) w ≡ w
all-seen [] = refl
all-seen (a ∷ w) = ap (λ v. a ∷ v) (all-seen w)

elsewhere-closed : IsClosedLanguage elsewhere 1 is_even
elsewhere-closed u v wu wv e = ap is_even (sym (all-seen u) ∙ e 0 ∙ all-seen v)

elsewhere-regular : IsRegular 1 is_even
elsewhere-regular = (parity, parity-accepts)

elsewhere-diamonds : IsDiamondRegular elsewhere 1 is_even
elsewhere-diamonds = (parity, parity-accepts, λ q a b l la lb i. refl)

elsewhere-not : IsDistributable elsewhere 1 0 is_even → ⊥
elsewhere-not = even-told elsewhere 0 (λ z. refl)

-- a letter without a participant: an automaton with every diamond accepts the language, and no asynchronous one, for
-- any number of processes
abbrev nobody : ℕ → List ℕ
nobody a = []

nobody-diamonds : IsDiamondRegular nobody 1 is_even
nobody-diamonds = (parity, parity-accepts, λ q a b l la lb i. refl)

nobody-not : (n : ℕ) → IsDistributable nobody 1 n is_even → ⊥
nobody-not n = even-told nobody n (λ z. refl)

-- local states without a bound: each process counts its own letters, and both have as many; the language is trace-closed and
-- not regular
abbrev counting : Asynchronous
counting = record { states = λ p. 0; start = λ p. 0; next = λ a xs p. suc (get_or xs 0 0); accepts = λ xs. get_or xs 0 0 == get_or xs 1 0 }

abbrev counts : List ℕ → Bool
counts w = accepts_word both 2 counting w

counts-closed : IsClosedLanguage both 2 counts
counts-closed u v wu wv e = (asynchronous_is_closed both 2 counting u v e).1

abbrev times : ℕ → ℕ → List ℕ
times a n = replicate n a

abbrev count_moved : (ℕ → ℕ) → ℕ → ℕ → ℕ
count_moved = moved both counting

first-counted : (i : ℕ) (g : ℕ → ℕ) → (walk count_moved g (times 0 i) 0 ≡ i + g 0) × (walk count_moved g (times 0 i) 1 ≡ g 1)
first-counted zero g = (omega arith, refl)
first-counted (suc i) g = let r = first-counted i (count_moved g 0) in (r.0 ∙ (omega arith), r.1)

second-counted : (i : ℕ) (g : ℕ → ℕ) → (walk count_moved g (times 1 i) 0 ≡ g 0) × (walk count_moved g (times 1 i) 1 ≡ i + g 1)
second-counted zero g = (refl, omega arith)
second-counted (suc i) g = let r = second-counted i (count_moved g 1) in (r.0, r.1 ∙ (omega arith))

-- so the words of one letter and then the other are told by whether there are as many
counted : (i j : ℕ) → counts (times 0 i ++ times 1 j) ≡ (i == j)
counted i j =
    let g = walk count_moved counting.start (times 0 i) in
    let one = first-counted i counting.start in
    let two = second-counted j g in
    let zero-is : walk count_moved g (times 1 j) 0 ≡ i = two.0 ∙ one.0 ∙ (omega arith) in
    let one-is : walk count_moved g (times 1 j) 1 ≡ j = two.1 ∙ ap (λ v. j + v) one.1 ∙ (omega arith) in
    ap (λ h. h 0 == h 1) (walk-append count_moved counting.start (times 0 i) (times 1 j))
    ∙ ap (λ v. v == walk count_moved g (times 1 j) 1) zero-is ∙ ap (λ v. i == v) one-is

times-word : (a n : ℕ) → a < 2 → IsWord 2 (times a n)
times-word a zero l = All-nil (λ b. b < 2)
times-word a (suc n) l = All-cons (λ b. b < 2) a (times a n) l (times-word a n l)

counts-irregular : IsRegular 2 counts → ⊥
counts-irregular r =
    let d : Automaton = r.0 in
    let n : ℕ = suc d.states in
    let range : List ℕ = range_with_len 0 d.states in
    let state : ℕ → ℕ = λ i. walk d.step d.start (times 0 i) in
    let test : ℕ → ℕ → Bool = λ q j. d.accepts (walk d.step q (times 1 j)) in
    let back : ℕ → ℕ = λ q. least (test q) n in
    let word : (a i : ℕ) → a < 2 → IsWord d.letters (times a i) = λ a i l.
    subst (λ m. IsWord m (times a i)) (sym r.1.same_letters) (times-word a i l) in
    let told : (i j : ℕ) → test (state i) j ≡ (i == j) = λ i j.
    ap d.accepts (sym (walk-append d.step d.start (times 0 i) (times 1 j)))
    ∙ r.1.words (times 0 i ++ times 1 j) (All-append (λ b. b < 2) (times 0 i) (times 1 j) (times-word 0 i (omega arith)) (times-word 1 j (omega arith)))
    ∙ counted i j in
    let found : (i : ℕ) → i < n → back (state i) ≡ i = λ i l.
    let le = least-le (test (state i)) n i (told i i ∙ eq-eqb i i refl) in
    let at = least-true (test (state i)) n (omega arith) in
    sym (eqb-true i (back (state i)) (sym (told i (back (state i))) ∙ at)) in
    let most = pigeonhole n (map back range) (λ i l.
    has-map back range i
    ∙ any-here (λ q. back q == i) range (state i)
    (in-range d.states (state i) (walk-below d r.1.total d.start (times 0 i) r.1.total.starts (word 0 i (omega arith))))
    (eq-eqb (back (state i)) i (found i l))) in
    let long = length-map-range_with_len back 0 d.states in
    absurd (omega arith)

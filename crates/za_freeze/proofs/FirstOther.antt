-- The first line at which two texts differ, byte by byte.
use Rattle.std.proofs.Common.{◌≡◌, ◌≢◌, ◌∙◌, ap, sym, subst, ℕ, suc, ◌+◌, ◌<◌, ◌≤◌, ◌==◌, length, drop, get_or, arith, true, false, inl, inr}
use Rattle.std.proofs.Common.{List, [], ◌∷◌, ◌++◌, Option, Some, None, refl, eqb-true, eq-eqb}
use Rattle.std.specs.Prelude.{nat_eq}
use Rattle.std.specs.Option.{option_map}
use Rattle.std.specs.Str.{bytes_eq}
use Rattle.std.proofs.lemmas.Bool.{cases_Bool, cond-true, ne_eqb}
use Rattle.std.proofs.lemmas.List.{drop_all}
use Rattle.za_alpha.proofs.Projections.{drop-step}
use Rattle.std.proofs.lemmas.Slice.Eq.{bytes_eq-Decides}
use Rattle.za_text.specs.Lines.{RawLine, lines_of, put_front}
use Rattle.za_text.specs.Divided.{bytes_of, bytes_of_lines}
use Rattle.za_text.proofs.DividingLemmas.{bytes_of_lines_of}
use Rattle.za_freeze.specs.Thawing.{same_line, first_other}

same_bytes : (xs : List ℕ) → bytes_eq xs xs ≡ true
same_bytes xs = (bytes_eq-Decides xs xs).1 refl

-- no line of a text differs from itself
pub none-other : (ls : List RawLine) → first_other ls ls ≡ None
none-other [] = refl
none-other (l ∷ ls) =
    let e = same_bytes (bytes_of l) in
    let k = none-other ls in
    rw (e, k) refl

some-none : (o : Option ℕ) → o ≡ Some 0 → o ≡ None → ⊥
some-none o a b = cc

other-here : (l m : RawLine) (ls ms : List RawLine) → same_line l m ≡ false → first_other (l ∷ ls) (m ∷ ms) ≡ Some 0
other-here l m ls ms f = rw f refl

none-of : (o : Option ℕ) → option_map (λ n. suc n) o ≡ None → o ≡ None
none-of None h = refl
none-of (Some n) h = cc

-- where no line differs the texts are the same
same-bytes : (ls ms : List RawLine) → first_other ls ms ≡ None → bytes_of_lines ls ≡ bytes_of_lines ms
same-bytes [] [] h = refl
same-bytes [] (m ∷ ms) h = cc
same-bytes (l ∷ ls) [] h = cc
same-bytes (l ∷ ls) (m ∷ ms) h =
    elim (cases_Bool (same_line l m)) [
      | inl t ↦
          let e : bytes_of l ≡ bytes_of m = (bytes_eq-Decides (bytes_of l) (bytes_of m)).0 t in
          let k : first_other ls ms ≡ None =
          none-of (first_other ls ms) (sym (cond-true (same_line l m) (option_map (λ n. suc n) (first_other ls ms)) (Some 0) t) ∙ h) in
          ap (λ xs. xs ++ bytes_of_lines ls) e ∙ ap (λ xs. bytes_of m ++ xs) (same-bytes ls ms k)
      | inr f ↦ absurd (some-none (first_other (l ∷ ls) (m ∷ ms)) (other-here l m ls ms f) h)
    ]

pub same-text : (xs ys : List ℕ) → first_other (lines_of xs) (lines_of ys) ≡ None → xs ≡ ys
same-text xs ys h = sym (bytes_of_lines_of xs) ∙ same-bytes (lines_of xs) (lines_of ys) h ∙ bytes_of_lines_of ys

-- the first line of a text begins with its first byte
record IsFront (x : ℕ) (xs : List ℕ) : Type 0 where
  first : RawLine
  others : List RawLine
  rest : List ℕ
  lines : lines_of (x ∷ xs) ≡ first ∷ others
  bytes : bytes_of first ≡ x ∷ rest

front-of : (x : ℕ) (ls : List RawLine) → (l : RawLine) × (ms : List RawLine) × (t : List ℕ) × (put_front x ls ≡ l ∷ ms) × (bytes_of l ≡ x ∷ t)
front-of x [] = (record { text = x ∷ []; whole = false }, [], [], refl, refl)
front-of x (l ∷ ls) = (record { text = x ∷ l.text; whole = l.whole }, ls, bytes_of l, refl, refl)

front : (x : ℕ) (xs : List ℕ) → IsFront x xs
front x xs =
    elim (cases_Bool (x == 10)) [
      | inl t ↦
          record {
            first = record { text = []; whole = true };
            others = lines_of xs;
            rest = [];
            lines = rw t refl;
            bytes = ap (λ b. b ∷ []) (sym (eqb-true x 10 t));
          }
      | inr f ↦
          let k = front-of x (lines_of xs) in
          record { first = k.0; others = k.1; rest = k.2; lines = rw f k.3; bytes = k.4 }
    ]

-- a text differs from none at its first line
pub differs-past : (x : ℕ) (xs : List ℕ) → first_other (lines_of (x ∷ xs)) (lines_of []) ≡ Some 0
differs-past x xs = ap (λ ls. first_other ls []) (front x xs).lines

pub differs-short : (y : ℕ) (ys : List ℕ) → first_other (lines_of []) (lines_of (y ∷ ys)) ≡ Some 0
differs-short y ys = ap (first_other []) (front y ys).lines

-- texts with other first bytes differ at the first line
pub differs-here : (x y : ℕ) (xs ys : List ℕ) → x ≢ y → first_other (lines_of (x ∷ xs)) (lines_of (y ∷ ys)) ≡ Some 0
differs-here x y xs ys ne =
    let f = front x xs in
    let g = front y ys in
    let apart : nat_eq x y ≡ false = ne_eqb x y ne in
    let other : same_line f.first g.first ≡ false = ap (λ bs. bytes_eq bs (bytes_of g.first)) f.bytes ∙ ap (bytes_eq (x ∷ f.rest)) g.bytes ∙ (rw apart refl) in
    ap (λ ls. first_other ls (lines_of (y ∷ ys))) f.lines ∙ ap (first_other (f.first ∷ f.others)) g.lines ∙ other-here f.first g.first f.others g.others other

-- after the same line feed the lines behind it count
pub differs-later : (xs ys : List ℕ) → first_other (lines_of (10 ∷ xs)) (lines_of (10 ∷ ys)) ≡ option_map (λ n. suc n) (first_other (lines_of xs) (lines_of ys))
differs-later xs ys = refl

-- a line has a byte
abbrev Filled : List RawLine → Type 0
Filled [] = Unit {0}
Filled (l ∷ ls) = (x : ℕ) × (t : List ℕ) × (bytes_of l ≡ x ∷ t)

filled : (xs : List ℕ) → Filled (lines_of xs)
filled [] = tt
filled (x ∷ xs) = let f = front x xs in subst Filled (sym f.lines) (x, f.rest, f.bytes)

-- the same byte before two texts changes nothing
put-alike : (b : ℕ) (ls ms : List RawLine) → Filled ls → Filled ms → first_other (put_front b ls) (put_front b ms) ≡ first_other ls ms
put-alike b [] [] h k = none-other (put_front b [])
put-alike b [] (m ∷ ms) h k = let t = eq-eqb b b refl in let e = k.2 in rw (t, e) refl
put-alike b (l ∷ ls) [] h k = let t = eq-eqb b b refl in let e = h.2 in rw (t, e) refl
put-alike b (l ∷ ls) (m ∷ ms) h k = let t = eq-eqb b b refl in rw t refl

put-lines : (b : ℕ) (xs : List ℕ) → b ≢ 10 → lines_of (b ∷ xs) ≡ put_front b (lines_of xs)
put-lines b xs ne = let f = ne_eqb b 10 ne in rw f refl

pub differs-alike : (b : ℕ) (xs ys : List ℕ) → b ≢ 10 → first_other (lines_of (b ∷ xs)) (lines_of (b ∷ ys)) ≡ first_other (lines_of xs) (lines_of ys)
differs-alike b xs ys ne =
    ap (λ ls. first_other ls (lines_of (b ∷ ys))) (put-lines b xs ne) ∙ ap (first_other (put_front b (lines_of xs))) (put-lines b ys ne)
    ∙ put-alike b (lines_of xs) (lines_of ys) (filled xs) (filled ys)

-- what is left to compare from a place on, after so many lines
abbrev pub left_over : ℕ → ℕ → List ℕ → List ℕ → Option ℕ
left_over line i text other = option_map (λ n. n + line) (first_other (lines_of (drop i text)) (lines_of (drop i other)))

counted : (line : ℕ) (o : Option ℕ) → option_map (λ n. n + line) (option_map (λ n. suc n) o) ≡ option_map (λ n. n + (line + 1)) o
counted line None = refl
counted line (Some n) = let e : suc n + line ≡ n + (line + 1) = omega arith in ap Some e

at-zero : (line : ℕ) (o : Option ℕ) → o ≡ Some 0 → option_map (λ n. n + line) o ≡ Some line
at-zero line o e = let z : 0 + line ≡ line = omega arith in ap (option_map (λ n. n + line)) e ∙ ap Some z

module _ (text other : List ℕ) (line i : ℕ) where
  abbrev Lines : List ℕ → List ℕ → Option ℕ
  Lines xs ys = option_map (λ n. n + line) (first_other (lines_of xs) (lines_of ys))

  abbrev x : ℕ
  x = get_or text i 0

  abbrev y : ℕ
  y = get_or other i 0

  abbrev rest : List ℕ → List ℕ
  rest xs = drop (i + 1) xs

  both : i < length text → i < length other → left_over line i text other ≡ Lines (x ∷ rest text) (y ∷ rest other)
  both l m = ap (λ xs. Lines xs (drop i other)) (drop-step text i l) ∙ ap (Lines (x ∷ rest text)) (drop-step other i m)

  pub left-past : i < length text → length other ≤ i → left_over line i text other ≡ Some line
  left-past l m =
      ap (λ xs. Lines xs (drop i other)) (drop-step text i l) ∙ ap (Lines (x ∷ rest text)) (drop_all i other m)
      ∙ at-zero line (first_other (lines_of (x ∷ rest text)) []) (differs-past x (rest text))

  pub left-short : length text ≤ i → i < length other → left_over line i text other ≡ Some line
  left-short l m =
      ap (λ xs. Lines xs (drop i other)) (drop_all i text l) ∙ ap (Lines []) (drop-step other i m)
      ∙ at-zero line (first_other [] (lines_of (y ∷ rest other))) (differs-short y (rest other))

  pub left-none : length text ≤ i → length other ≤ i → left_over line i text other ≡ None
  left-none l m = ap (λ xs. Lines xs (drop i other)) (drop_all i text l) ∙ ap (Lines []) (drop_all i other m)

  pub left-apart : i < length text → i < length other → x ≢ y → left_over line i text other ≡ Some line
  left-apart l m ne = both l m ∙ at-zero line (first_other (lines_of (x ∷ rest text)) (lines_of (y ∷ rest other)))
      (differs-here x y (rest text) (rest other) ne)

  pub left-feed : i < length text → i < length other → x ≡ y → x ≡ 10 → left_over line i text other ≡ left_over (line + 1) (i + 1) text other
  left-feed l m e t =
      both l m ∙ ap (λ b. Lines (b ∷ rest text) (y ∷ rest other)) t ∙ ap (λ b. Lines (10 ∷ rest text) (b ∷ rest other)) (sym e ∙ t)
      ∙ counted line (first_other (lines_of (rest text)) (lines_of (rest other)))

  pub left-alike : i < length text → i < length other → x ≡ y → x ≢ 10 → left_over line i text other ≡ left_over line (i + 1) text other
  left-alike l m e ne =
      both l m ∙ ap (λ b. Lines (x ∷ rest text) (b ∷ rest other)) (sym e)
      ∙ ap (option_map (λ n. n + line)) (differs-alike x (rest text) (rest other) ne)

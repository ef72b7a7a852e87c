-- A text divided between two of its lines.
use Rattle.std.proofs.Common.{◌≡◌, ℕ, zero, suc, ◌+◌, ◌≤◌, Bool, true, false, inl, inr, List, [], ◌∷◌, ◌++◌, ◌==◌, length, take, drop, refl}
use Rattle.std.proofs.Common.{sym, ap, ◌∙◌, arith}
use Rattle.std.proofs.Common.{length-append, append_assoc, append-nil, eqb-true}
use Rattle.std.specs.Prelude.{Some, None, slice_get}
use Rattle.std.proofs.lemmas.Bool.{cases_Bool, cond-true, cond-false}
use Rattle.std.proofs.lemmas.List.{take_at, take_all, length-take-le}
use Rattle.std.proofs.Math.Seq.{drop-append-add}
use Rattle.std.proofs.lemmas.Grind.{flat_map-append}
use Rattle.za_text.specs.Lines.{RawLine, lines_of, put_front}
use Rattle.za_text.specs.Divided.{bytes_of, bytes_of_lines, place_in, lines_before, lines_through, lines_after}

put-bytes : (b : ℕ) (ls : List RawLine) → bytes_of_lines (put_front b ls) ≡ b ∷ bytes_of_lines ls
put-bytes b [] = refl
put-bytes b (l ∷ ls) = refl

abbrev feed_line : RawLine
feed_line = record { text = []; whole = true }

-- the bytes of the lines of a text are the text
pub bytes_of_lines_of : (bs : List ℕ) → bytes_of_lines (lines_of bs) ≡ bs
bytes_of_lines_of [] = refl
bytes_of_lines_of (b ∷ bs) =
    let ih = bytes_of_lines_of bs in
    elim (cases_Bool (b == 10)) [
      | inl t ↦
          ap bytes_of_lines (cond-true (b == 10) (feed_line ∷ lines_of bs) (put_front b (lines_of bs)) t) ∙ ap (λ x. 10 ∷ x) ih
          ∙ ap (λ x. x ∷ bs) (sym (eqb-true b 10 t))
      | inr f ↦
          ap bytes_of_lines (cond-false (b == 10) (feed_line ∷ lines_of bs) (put_front b (lines_of bs)) f) ∙ put-bytes b (lines_of bs) ∙ ap (λ x. b ∷ x) ih
    ]

-- where the search for the line has come to: none so far passes
pub record IsSearched (test : RawLine → Bool) (bytes rest : List ℕ) (len passed : ℕ) : Type 0 where
  pub front : List RawLine
  pub split : lines_of bytes ≡ front ++ lines_of rest
  pub size : len ≡ length (bytes_of_lines front)
  pub place : place_in test (lines_of bytes) ≡ length front + place_in test (lines_of rest)
  pub count : passed ≡ length front

pub searched-start : {test : RawLine → Bool} {bytes rest : List ℕ} {passed : ℕ} → rest ≡ bytes → passed ≡ 0 → IsSearched test bytes rest 0 passed
searched-start {test} same none =
    record { front = []; split = ap lines_of (sym same); size = refl; place = let p = ap (λ bs. place_in test (lines_of bs)) same in omega arith; count = none }

-- the first bytes, as many as the first lines have, are theirs
first-bytes : (bytes : List ℕ) (front back : List RawLine) (len : ℕ) → lines_of bytes ≡ front ++ back → len ≡ length (bytes_of_lines front)
    → (take len bytes ≡ bytes_of_lines front) × (len ≤ length bytes)
first-bytes bytes front back len split size =
    let whole : bytes ≡ bytes_of_lines front ++ bytes_of_lines back = sym (bytes_of_lines_of bytes) ∙ ap bytes_of_lines split
    ∙ flat_map-append bytes_of front back in
    let long = ap length whole ∙ length-append (bytes_of_lines front) (bytes_of_lines back) in
    (ap (take len) whole ∙ take_at (bytes_of_lines front) (bytes_of_lines back) len (sym size), omega arith)

pub get-behind : (front : List RawLine) (l : RawLine) (ls : List RawLine) → slice_get (front ++ l ∷ ls) (length front) ≡ Some l
get-behind [] l ls = refl
get-behind (f ∷ front) l ls = get-behind front l ls

get-past : (ls : List RawLine) (n : ℕ) → length ls ≤ n → slice_get ls n ≡ None
get-past [] n h = refl
get-past (l ∷ ls) zero h = absurd (omega arith)
get-past (l ∷ ls) (suc n) h = get-past ls n (omega arith)

module _ {test : RawLine → Bool} {bytes old : List ℕ} {len passed : ℕ} {l : RawLine} (new : List ℕ)
    (s : IsSearched test bytes old len passed) (e : lines_of old ≡ l ∷ lines_of new)
    {end next : ℕ} (ends : end ≡ len + length (bytes_of l)) (counts : next ≡ passed + 1) where
  at : lines_of bytes ≡ s.front ++ l ∷ lines_of new
  at = s.split ∙ ap (λ x. s.front ++ x) e

  longer : lines_of bytes ≡ (s.front ++ l ∷ []) ++ lines_of new
  longer = at ∙ sym (append_assoc s.front (l ∷ []) (lines_of new))

  longer-size : end ≡ length (bytes_of_lines (s.front ++ l ∷ []))
  longer-size =
      let z = s.size in
      let a = ap length (flat_map-append bytes_of s.front (l ∷ [])) ∙ length-append (bytes_of_lines s.front) (bytes_of_lines (l ∷ [])) in
      let b = ap length (append-nil (bytes_of l)) in omega arith

  -- the bytes up to the end of the line are among all
  pub line-within : end ≤ length bytes
  line-within = (first-bytes bytes (s.front ++ l ∷ []) (lines_of new) end longer longer-size).1

  pub before-within : len ≤ length bytes
  before-within = let w = line-within in omega arith

  pub line-cut : end ≡ length (take end bytes)
  line-cut = sym (length-take-le end bytes line-within)

  pub before-cut : len ≡ length (take len bytes)
  before-cut = sym (length-take-le len bytes before-within)

  -- the search goes on after a line that doesn't pass
  pub searched-more : test l ≡ false → IsSearched test bytes new end next
  searched-more f =
      let more : place_in test (l ∷ lines_of new) ≡ 1 + place_in test (lines_of new) = rw f refl in
      let p = s.place ∙ ap (λ x. length s.front + place_in test x) e in
      let c = s.count in
      let n = length-append s.front (l ∷ []) in
      record { front = s.front ++ l ∷ []; split = longer; size = longer-size; place = omega arith; count = omega arith }

  module _ (t : test l ≡ true) where
    -- and ends at one that does
    pub found : place_in test (lines_of bytes) ≡ length s.front
    found =
        let none : place_in test (l ∷ lines_of new) ≡ 0 = rw t refl in
        let p = s.place ∙ ap (λ x. length s.front + place_in test x) e in omega arith

    pub found-before : take len bytes ≡ bytes_of_lines (lines_before test (lines_of bytes))
    found-before =
        (first-bytes bytes s.front (l ∷ lines_of new) len at s.size).0
        ∙ ap bytes_of_lines (sym (take_at s.front (l ∷ lines_of new) (length s.front) refl)
        ∙ ap (take (length s.front)) (sym at) ∙ ap (λ n. take n (lines_of bytes)) (sym found))

    lines-through : lines_through test (lines_of bytes) ≡ s.front ++ l ∷ []
    lines-through =
        let n : length (s.front ++ l ∷ []) ≡ length s.front + 1 = length-append s.front (l ∷ []) in
        ap (λ k. take (k + 1) (lines_of bytes)) found ∙ ap (take (length s.front + 1)) longer
        ∙ take_at (s.front ++ l ∷ []) (lines_of new) (length s.front + 1) n

    pub found-through : take end bytes ≡ bytes_of_lines (lines_through test (lines_of bytes))
    found-through = (first-bytes bytes (s.front ++ l ∷ []) (lines_of new) end longer longer-size).0 ∙ ap bytes_of_lines (sym lines-through)

    pub found-line : Some l ≡ slice_get (lines_of bytes) (place_in test (lines_of bytes))
    found-line = sym (ap (slice_get (lines_of bytes)) found ∙ ap (λ x. slice_get x (length s.front)) at ∙ get-behind s.front l (lines_of new))

    pub found-number : next ≡ place_in test (lines_of bytes) + 1
    found-number = counts ∙ ap (λ n. n + 1) (s.count ∙ sym found)

    pub found-after : lines_of new ≡ lines_after test (lines_of bytes)
    found-after = sym (ap (λ k. drop (k + 1) (lines_of bytes)) found ∙ ap (drop (length s.front + 1)) at ∙ drop-append-add s.front (l ∷ lines_of new) 1)

    pub found-passed : next ≡ length (lines_through test (lines_of bytes))
    found-passed = let n = ap length lines-through ∙ length-append s.front (l ∷ []) in let c = s.count in omega arith

-- no line passes
module _ {test : RawLine → Bool} {bytes rest : List ℕ} {len passed : ℕ} (s : IsSearched test bytes rest len passed) (e : lines_of rest ≡ []) where
  all-lines : lines_of bytes ≡ s.front
  all-lines = s.split ∙ ap (λ x. s.front ++ x) e ∙ append-nil s.front

  pub none-place : place_in test (lines_of bytes) ≡ length (lines_of bytes)
  none-place =
      let none : place_in test (lines_of rest) ≡ 0 = ap (place_in test) e in
      let p = s.place in
      let n = ap length all-lines in omega arith

  pub none-before : bytes ≡ bytes_of_lines (lines_before test (lines_of bytes))
  none-before =
      let p = none-place in
      sym (bytes_of_lines_of bytes) ∙ ap bytes_of_lines (sym (take_all (place_in test (lines_of bytes)) (lines_of bytes) (omega arith)))

  through-all : lines_through test (lines_of bytes) ≡ lines_of bytes
  through-all = let p = none-place in take_all (place_in test (lines_of bytes) + 1) (lines_of bytes) (omega arith)

  pub none-through : bytes ≡ bytes_of_lines (lines_through test (lines_of bytes))
  none-through = sym (bytes_of_lines_of bytes) ∙ ap bytes_of_lines (sym through-all)

  pub none-line : None ≡ slice_get (lines_of bytes) (place_in test (lines_of bytes))
  none-line = let p = none-place in sym (get-past (lines_of bytes) (place_in test (lines_of bytes)) (omega arith))

  pub none-passed : passed ≡ length (lines_through test (lines_of bytes))
  none-passed = let n = ap length through-all in let m = ap length all-lines in let c = s.count in omega arith

  pub none-after : lines_of rest ≡ lines_after test (lines_of bytes)
  none-after = e ∙ sym (drop-past (lines_of bytes) (place_in test (lines_of bytes) + 1) (let p = none-place in omega arith))
    where
      drop-past : (ls : List RawLine) (n : ℕ) → length ls ≤ n → drop n ls ≡ []
      drop-past [] zero h = refl
      drop-past [] (suc n) h = refl
      drop-past (l ∷ ls) zero h = absurd (omega arith)
      drop-past (l ∷ ls) (suc n) h = drop-past ls n (omega arith)

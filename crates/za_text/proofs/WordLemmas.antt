-- Where the first word of a line stands.
use Rattle.std.proofs.Common.{◌≡◌, ℕ, ◌+◌, ◌-◌, ◌<◌, ◌∙◌, sym, ap, Bool, true, false, cond, not, ◌==◌, List, [], ◌∷◌, length, take, drop, refl, drop-drop}
use Rattle.std.proofs.Common.{arith}
use Rattle.std.specs.Prelude.{slice_range}
use Rattle.std.proofs.Math.Numerals.{one-add}
use Rattle.std.specs.List.{prefix_len, filter}
use Rattle.std.proofs.lemmas.List.Folds.{length-prefix_len}
use Rattle.std.proofs.lemmas.Bool.Decides.{nat_tests}
use Rattle.za_text.specs.Words.{is_gap, put_first, pieces, words_of}

abbrev run : List ℕ → ℕ
run bs = prefix_len (λ b. not (is_gap b)) bs

abbrev filled : List ℕ → Bool
filled piece = not (length piece == 0)

-- the pieces after a gap byte
abbrev pieces_after : List ℕ → List (List ℕ)
pieces_after [] = []
pieces_after (b ∷ bs) = pieces bs

stops_at : (p : ℕ → Bool) (t : Bool) (b : ℕ) (bs : List ℕ) → p b ≡ t → prefix_len p (drop (prefix_len p bs) bs) ≡ 0
    → prefix_len p (drop (cond t (1 + prefix_len p bs) 0) (b ∷ bs)) ≡ 0
stops_at p true b bs e h = rw one-add h
stops_at p false b bs e h = rw e

-- after a longest front that passes no more pass
stops : (p : ℕ → Bool) (bs : List ℕ) → prefix_len p (drop (prefix_len p bs) bs) ≡ 0
stops p [] = refl
stops p (b ∷ bs) = stops_at p (p b) b bs refl (stops p bs)

pieces_at : (gap : Bool) (b : ℕ) (bs : List ℕ) → pieces bs ≡ take (run bs) bs ∷ pieces_after (drop (run bs) bs)
    → cond gap ([] ∷ pieces bs) (put_first b (pieces bs))
    ≡ take (cond (not gap) (1 + run bs) 0) (b ∷ bs) ∷ pieces_after (drop (cond (not gap) (1 + run bs) 0) (b ∷ bs))
pieces_at true b bs h = refl
pieces_at false b bs h = rw h (rw one-add)

pieces_run : (bs : List ℕ) → pieces bs ≡ take (run bs) bs ∷ pieces_after (drop (run bs) bs)
pieces_run [] = refl
pieces_run (b ∷ bs) = pieces_at (is_gap b) b bs (pieces_run bs)

gap_at : (gap : Bool) (b : ℕ) (bs : List ℕ) → is_gap b ≡ gap → words_of (drop (prefix_len is_gap bs) bs) ≡ words_of bs
    → words_of (drop (cond gap (1 + prefix_len is_gap bs) 0) (b ∷ bs)) ≡ words_of (b ∷ bs)
gap_at true b bs e h = rw (one-add, e) h
gap_at false b bs e h = refl

words_gap : (bs : List ℕ) → words_of (drop (prefix_len is_gap bs) bs) ≡ words_of bs
words_gap [] = refl
words_gap (b ∷ bs) = gap_at (is_gap b) b bs refl (words_gap bs)

empty_at : (gap : Bool) (n m : ℕ) → cond gap (1 + n) 0 ≡ 0 → cond (not gap) (1 + m) 0 ≡ 0 → ⊥
empty_at true n m e h = omega arith
empty_at false n m e h = omega arith

words_empty : (bs : List ℕ) → prefix_len is_gap bs ≡ 0 → run bs ≡ 0 → words_of bs ≡ []
words_empty [] e h = refl
words_empty (b ∷ bs) e h = absurd (empty_at (is_gap b) (prefix_len is_gap bs) (run bs) e h)

after_at : (gap : Bool) (b : ℕ) (bs : List ℕ) → is_gap b ≡ gap → cond (not gap) (1 + run bs) 0 ≡ 0 → filter filled (pieces bs) ≡ words_of (b ∷ bs)
after_at true b bs e h = rw e
after_at false b bs e h = absurd (omega arith)

words_after : (bs : List ℕ) → run bs ≡ 0 → filter filled (pieces_after bs) ≡ words_of bs
words_after [] h = refl
words_after (b ∷ bs) h = after_at (is_gap b) b bs refl h

filled_at : (n : ℕ) → 0 < n → not (n == 0) ≡ true
filled_at n h = grind (arith, nat_tests)

words_run : (bs : List ℕ) → 0 < run bs → words_of bs ≡ take (run bs) bs ∷ words_of (drop (run bs) bs)
words_run bs h =
    let long = length-prefix_len (λ b. not (is_gap b)) bs in
    let full : filled (take (run bs) bs) ≡ true = ap (λ n. not (n == 0)) long ∙ filled_at (run bs) h in
    let rest = words_after (drop (run bs) bs) (stops (λ b. not (is_gap b)) bs) in
    ap (filter filled) (pieces_run bs) ∙ rw full (ap (λ ws. take (run bs) bs ∷ ws) rest)

-- no word is left
pub no_word : (bs : List ℕ) (gaps : ℕ) → gaps ≡ prefix_len is_gap bs → run (drop gaps bs) ≡ 0 → words_of bs ≡ []
no_word bs gaps e h = sym (words_gap bs) ∙ words_empty (drop (prefix_len is_gap bs) bs) (stops is_gap bs) (rw e at h)

-- the first word, and those after it
pub first_word : (bs : List ℕ) (gaps len : ℕ) → gaps ≡ prefix_len is_gap bs → len ≡ run (drop gaps bs) → 0 < len
    → words_of bs ≡ take len (drop gaps bs) ∷ words_of (drop len (drop gaps bs))
first_word bs gaps len e h some =
    let begins : words_of (drop gaps bs) ≡ words_of bs = rw e (words_gap bs) in
    let some : 0 < run (drop gaps bs) = omega arith in
    sym begins ∙ (rw h (words_run (drop gaps bs) some))

-- the first word from a place on
pub word_from : (text : List ℕ) (at gaps len : ℕ) → gaps ≡ prefix_len is_gap (drop at text) → len ≡ run (drop (at + gaps) text) → 0 < len
    → words_of (drop at text) ≡ slice_range text (at + gaps) (at + gaps + len) ∷ words_of (drop (at + gaps + len) text)
word_from text at gaps len e h some =
    let two : drop gaps (drop at text) ≡ drop (at + gaps) text = drop-drop gaps at text in
    let three : drop len (drop (at + gaps) text) ≡ drop (at + gaps + len) text = drop-drop len (at + gaps) text in
    let size : at + gaps + len - (at + gaps) ≡ len = omega arith in
    let h' : len ≡ run (drop gaps (drop at text)) = rw two h in
    let begins = first_word (drop at text) gaps len e h' some in
    rw size (rw (← three) (rw (← two) begins))

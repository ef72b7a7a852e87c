-- Where the first line of a text ends.
use Rattle.std.proofs.Common.{◌≡◌, ℕ, ◌+◌, ◌<◌, ◌≤◌, Bool, true, false, cond, not, ◌==◌, List, [], ◌∷◌, length, take, drop, get_or, refl, sym, ap, add-one}
use Rattle.std.proofs.Common.{arith}
use Rattle.std.proofs.lemmas.List.Sums.{prefix_len_is}
use Rattle.std.proofs.Math.Numerals.{one-add}
use Rattle.std.specs.List.{prefix_len}
use Rattle.za_text.specs.Lines.{lines_of}

abbrev len : List ℕ → ℕ
len bs = prefix_len (λ b. not (b == 10)) bs

whole_at : (feed : Bool) (b : ℕ) (bs : List ℕ) → (b == 10) ≡ feed → cond (not feed) (1 + len bs) 0 < length (b ∷ bs)
    → (len bs < length bs → lines_of bs ≡ record { text = take (len bs) bs; whole = true } ∷ lines_of (drop (len bs + 1) bs))
    → lines_of (b ∷ bs) ≡ record { text = take (cond (not feed) (1 + len bs) 0) (b ∷ bs); whole = true } ∷ lines_of
    (drop (cond (not feed) (1 + len bs) 0 + 1) (b ∷ bs))
whole_at true b bs e h more = rw e
whole_at false b bs e h more =
    let below : len bs < length bs = omega arith in
    let later = more below in
    rw e (rw later (simp (one-add, add-one)))

pub lines_whole : (bs : List ℕ) → len bs < length bs → lines_of bs ≡ record { text = take (len bs) bs; whole = true } ∷ lines_of (drop (len bs + 1) bs)
lines_whole [] h = absurd (omega arith)
lines_whole (b ∷ bs) h = whole_at (b == 10) b bs refl h (lines_whole bs)

last_at : (feed : Bool) (b : ℕ) (bs : List ℕ) → (b == 10) ≡ feed → length (b ∷ bs) ≤ cond (not feed) (1 + len bs) 0
    → (0 < length bs → length bs ≤ len bs → lines_of bs ≡ record { text = bs; whole = false } ∷ [])
    → lines_of (b ∷ bs) ≡ record { text = b ∷ bs; whole = false } ∷ []
last_at true b bs e h more = absurd (omega arith)
last_at false b [] e h more = rw e
last_at false b (c ∷ bs) e h more =
    let some : 0 < length (c ∷ bs) = omega arith in
    let within : length (c ∷ bs) ≤ len (c ∷ bs) = omega arith in
    let later = more some within in
    rw e (rw later)

pub lines_last : (bs : List ℕ) → 0 < length bs → length bs ≤ len bs → lines_of bs ≡ record { text = bs; whole = false } ∷ []
lines_last [] some h = absurd (omega arith)
lines_last (b ∷ bs) some h = last_at (b == 10) b bs refl h (lines_last bs)

pub first_whole : (bs : List ℕ) (n : ℕ) → n ≡ len bs → n < length bs → lines_of bs ≡ record { text = take n bs; whole = true } ∷ lines_of (drop (n + 1) bs)
first_whole bs n e h = let h : len bs < length bs = omega arith in rw e (lines_whole bs h)

-- the line feed is where a search for it comes to
module _ (bs : List ℕ) where
  other : (feed : Bool) → ¬ (feed ≡ true) → not feed ≡ true
  other true h = absurd (h refl)
  other false h = refl

  pub len_at : (at : ℕ) → at < length bs → ((k : ℕ) → k < at → ¬ ((get_or bs k 0 == 10) ≡ true)) → (get_or bs at 0 == 10) ≡ true → at ≡ len bs
  len_at at within before feed =
      sym (prefix_len_is (λ b. not (b == 10)) bs at 0 (omega arith) (λ k h. other (get_or bs k 0 == 10) (before k h)) (λ _. ap not feed))

  pub len_nowhere : ((k : ℕ) → k < length bs → ¬ ((get_or bs k 0 == 10) ≡ true)) → length bs ≡ len bs
  len_nowhere nowhere =
      sym (prefix_len_is (λ b. not (b == 10)) bs (length bs) 0 (omega arith) (λ k h. other (get_or bs k 0 == 10) (nowhere k h)) (λ h. absurd (omega arith)))

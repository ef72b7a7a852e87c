-- The lines of a text that begins with whole lines, and where a text of them is divided.
use Rattle.std.proofs.Common.{◌≡◌, ◌∙◌, ap, sym, ℕ, ◌==◌, Bool, true, false, inl, inr, List, [], ◌∷◌, ◌++◌, Some, refl, length, map, take, arith}
use Rattle.std.specs.Prelude.{slice_get}
use Rattle.std.specs.List.{list_all, AllByRecursion}
use Rattle.std.proofs.lemmas.Bool.{cases_Bool, cond-true, cond-false}
use Rattle.std.proofs.lemmas.List.{take_at}
use Rattle.za_text.specs.Lines.{RawLine, lines_of, put_front}
use Rattle.za_text.specs.Printed.{text_of}
use Rattle.za_text.specs.Divided.{place_in, lines_before}
use Rattle.za_text.proofs.DividingLemmas.{get-behind}
use Rattle.za_print.proofs.PrintedLines.{IsLine, printed_line, lines_of_text}

abbrev all_whole : List RawLine → Bool
all_whole ls = list_all (λ (l : RawLine). l.whole) ls

-- the lines of a text with more behind its last line feed
behind-put : (b : ℕ) (ls ms : List RawLine) → all_whole (put_front b ls) ≡ true → (all_whole ls ≡ true) × (put_front b (ls ++ ms) ≡ put_front b ls ++ ms)
behind-put b [] ms h = cc
behind-put b (l ∷ ls) ms h = (h, refl)

abbrev feed_line : RawLine
feed_line = record { text = []; whole = true }

pub lines-behind : (xs ys : List ℕ) → all_whole (lines_of xs) ≡ true → lines_of (xs ++ ys) ≡ lines_of xs ++ lines_of ys
lines-behind [] ys h = refl
lines-behind (b ∷ xs) ys h =
    elim (cases_Bool (b == 10)) [
      | inl t ↦
          let e = cond-true (b == 10) (feed_line ∷ lines_of xs) (put_front b (lines_of xs)) t in
          let f = cond-true (b == 10) (feed_line ∷ lines_of (xs ++ ys)) (put_front b (lines_of (xs ++ ys))) t in
          let w : all_whole (lines_of xs) ≡ true = sym (ap all_whole e) ∙ h in
          f ∙ ap (λ ls. feed_line ∷ ls) (lines-behind xs ys w) ∙ ap (λ ls. ls ++ lines_of ys) (sym e)
      | inr n ↦
          let e = cond-false (b == 10) (feed_line ∷ lines_of xs) (put_front b (lines_of xs)) n in
          let f = cond-false (b == 10) (feed_line ∷ lines_of (xs ++ ys)) (put_front b (lines_of (xs ++ ys))) n in
          let k = behind-put b (lines_of xs) (lines_of ys) (sym (ap all_whole e) ∙ h) in
          f ∙ ap (put_front b) (lines-behind xs ys k.0) ∙ k.1 ∙ ap (λ ls. ls ++ lines_of ys) (sym e)
    ]

printed-whole : (wss : List (List (List ℕ))) → all_whole (map printed_line wss) ≡ true
printed-whole [] = refl
printed-whole (ws ∷ wss) = printed-whole wss

-- the lines of lines of words and of more behind them
pub lines-of-both : (wss : List (List (List ℕ))) (ys : List ℕ) → AllByRecursion IsLine wss → lines_of (text_of wss ++ ys) ≡ map printed_line wss ++ lines_of ys
lines-of-both wss ys h =
    let lines = lines_of_text wss h in
    lines-behind (text_of wss) ys (ap all_whole lines ∙ printed-whole wss) ∙ ap (λ ls. ls ++ lines_of ys) lines

-- where the first line that passes stands
module _ (test : RawLine → Bool) (l : RawLine) (ls : List RawLine) (here : test l ≡ true) where
  pub place-behind : (front : List RawLine) → AllByRecursion (λ f. test f ≡ false) front → place_in test (front ++ l ∷ ls) ≡ length front
  place-behind [] h = rw here refl
  place-behind (f ∷ front) h = let n = h.0 in let k = place-behind front h.1 in rw (n, k) (omega arith)

  pub before-behind : (front : List RawLine) → AllByRecursion (λ f. test f ≡ false) front → lines_before test (front ++ l ∷ ls) ≡ front
  before-behind front h = ap (λ n. take n (front ++ l ∷ ls)) (place-behind front h) ∙ take_at front (l ∷ ls) (length front) refl

  pub line-behind : (front : List RawLine) → AllByRecursion (λ f. test f ≡ false) front → slice_get (front ++ l ∷ ls) (place_in test (front ++ l ∷ ls)) ≡ Some l
  line-behind front h = ap (slice_get (front ++ l ∷ ls)) (place-behind front h) ∙ get-behind front l ls

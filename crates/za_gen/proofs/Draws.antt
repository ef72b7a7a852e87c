-- Draws one after another.
use Rattle.std.proofs.Common.{◌≡◌, ℕ, ◌+◌, ◌<◌, List, [], ◌∷◌, ◌++◌, length, map, refl, add-one, ap, ◌∙◌, arith}
use Rattle.std.specs.List.{range_with_len}
use Rattle.std.proofs.lemmas.List.{length-map}
use Rattle.std.proofs.lemmas.List.Elements.{All-nil, All-cons}
use Rattle.std.proofs.lemmas.List.FromFn.{length-range_with_len, map-range_with_len_more}
use Rattle.za_alpha.specs.Words.{IsWord}
use Rattle.za_gen.specs.Drawn.{stepped, register, draw_of, letter_drawn, drawn}

pub register-start : (s : ℕ) → register s 0 ≡ s
unfolding register
register-start s = refl

pub register-more : (s n : ℕ) → register s (n + 1) ≡ stepped (register s n)
unfolding register
register-more s n = ap (register s) (add-one n)

abbrev letter_at : ℕ → ℕ → ℕ
letter_at s k = letter_drawn (draw_of (register s (k + 1)))

pub drawn-start : (s : ℕ) → drawn s 0 ≡ []
unfolding drawn
drawn-start s = refl

pub drawn-more : (s n : ℕ) → drawn s (n + 1) ≡ drawn s n ++ letter_drawn (draw_of (register s (n + 1))) ∷ []
unfolding drawn
drawn-more s n = map-range_with_len_more (letter_at s) 0 n n (omega arith)

pub length-drawn : (s n : ℕ) → length (drawn s n) ≡ n
unfolding drawn
length-drawn s n = length-map (range_with_len 0 n) (letter_at s) ∙ length-range_with_len 0 n

all-map : (f : ℕ → ℕ) (m : ℕ) → ((k : ℕ) → f k < m) → (ks : List ℕ) → IsWord m (map f ks)
all-map f m h [] = All-nil (λ a. a < m)
all-map f m h (k ∷ ks) = All-cons (λ a. a < m) (f k) (map f ks) (h k) (all-map f m h ks)

pub drawn-word : (s n : ℕ) → IsWord 8 (drawn s n)
unfolding drawn
drawn-word s n = all-map (letter_at s) 8 (λ k. small (draw_of (register s (k + 1)))) (range_with_len 0 n)
  where
    small : (d : ℕ) → letter_drawn d < 8
    small d = omega arith

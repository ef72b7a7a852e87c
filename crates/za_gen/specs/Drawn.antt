-- The letters that are drawn from a number.
use Rattle.std.specs.Prelude.{ℕ, zero, suc, ◌+◌, ◌*◌, ◌/◌, ◌%◌, ◌^◌, List, map}
use Rattle.std.specs.List.{range_with_len}

-- the register after one draw more
abbrev pub stepped : ℕ → ℕ
stepped s = (s * 6364136223846793005 + 1442695040888963407) % 2 ^ 64

-- the register after so many draws from the number on
unfoldable pub register : ℕ → ℕ → ℕ
register number zero = number
register number (suc n) = stepped (register number n)

-- what a draw gives, by the register after it
abbrev pub draw_of : ℕ → ℕ
draw_of s = s / 2 ^ 33

-- one of eight letters
abbrev pub letter_drawn : ℕ → ℕ
letter_drawn draw = draw % 8

-- the first n letters: letter k is that of the draw number k + 1
unfoldable pub drawn : ℕ → ℕ → List ℕ
drawn number n = map (λ k. letter_drawn (draw_of (register number (k + 1)))) (range_with_len 0 n)

-- Numbers.
use Rattle.std.specs.Prelude.{ℕ, ◌+◌, ◌-◌, ◌*◌, ◌==◌, ◌&&◌, nat_le, not, Bool, false, List, [], ◌∷◌, length, fold}
use Rattle.std.specs.Prelude.{Option, Some, None, if◌then◌else◌}
use Rattle.std.specs.List.{list_all}

abbrev pub is_digit : ℕ → Bool
is_digit b = nat_le 48 b && nat_le b 57

-- 1 to 10 digits, of which the first is no 0, but for 0 itself
abbrev pub is_numeral : List ℕ → Bool
is_numeral [] = false
is_numeral (b ∷ []) = is_digit b
is_numeral (b ∷ c ∷ bs) = not (b == 48) && nat_le (length (b ∷ c ∷ bs)) 10 && list_all is_digit (b ∷ c ∷ bs)

-- the value of decimal digits
abbrev pub value_of : List ℕ → ℕ
value_of digits = fold (λ v digit. v * 10 + (digit - 48)) 0 digits

-- the number that a word is: a numeral of value at most 4294967295
abbrev pub numeral_value : List ℕ → Option ℕ
numeral_value word = if is_numeral word && nat_le (value_of word) 4294967295 then Some (value_of word) else None

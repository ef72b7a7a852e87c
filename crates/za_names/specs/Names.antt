-- Names.
use Rattle.std.specs.Prelude.{ℕ, ◌==◌, ◌&&◌, ◌||◌, Bool, false, not, nat_le, List, [], ◌∷◌, length}
use Rattle.std.specs.List.{list_all}
use Rattle.za_names.specs.Limits.{most_name_bytes}

-- a letter A to Z or a to z, a digit or an underscore
abbrev pub is_name_byte : ℕ → Bool
is_name_byte b =
    (nat_le 65 b && nat_le b 90) || (nat_le 97 b && nat_le b 122) || (nat_le 48 b && nat_le b 57) || b == 95

abbrev pub begins_with_digit : List ℕ → Bool
begins_with_digit [] = false
begins_with_digit (b ∷ bs) = nat_le 48 b && nat_le b 57

-- 1 to most_name_bytes such bytes, of which the first is no digit
abbrev pub is_name : List ℕ → Bool
is_name name =
    nat_le 1 (length name) && nat_le (length name) most_name_bytes && not (begins_with_digit name) &&
    list_all is_name_byte name

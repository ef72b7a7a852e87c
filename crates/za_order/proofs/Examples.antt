-- The definitions computed on small words.
use Rattle.std.proofs.Common.{◌≡◌, ℕ, zero, suc, true, false, ◌==◌, List, [], ◌∷◌, Option, Some, None, filter, map, refl}
use Rattle.std.specs.List.{range_with_len}
use Rattle.za_order.specs.Views.{participants, in_view, in_past}
use Rattle.za_order.specs.Entries.{primary}
use Rattle.za_order.specs.Labels.{labels}
use Rattle.za_order.specs.Locals.{ids, earlier, best, under, residue_word}

-- the letters a of process 0, b of process 1, and c of both
abbrev loc_two : ℕ → List ℕ
loc_two zero = 0 ∷ []
loc_two (suc zero) = 1 ∷ []
loc_two (suc (suc a)) = 0 ∷ 1 ∷ []

-- a b c a
abbrev word_two : List ℕ
word_two = 0 ∷ 1 ∷ 2 ∷ 0 ∷ []

abbrev who_two : ℕ → List ℕ
who_two = participants loc_two word_two

past_of_c : filter (in_past who_two 2) (range_with_len 0 4) ≡ 0 ∷ 1 ∷ 2 ∷ []
past_of_c = refl

view_of_one : filter (in_view who_two 4 (1 ∷ [])) (range_with_len 0 4) ≡ 0 ∷ 1 ∷ 2 ∷ []
view_of_one = refl

primary_zero_one : primary who_two 4 0 1 ≡ Some 2
primary_zero_one = refl

primary_one_zero : primary who_two 4 1 0 ≡ Some 2
primary_one_zero = refl

primary_zero_zero : primary who_two 4 0 0 ≡ Some 3
primary_zero_zero = refl

labels_two : labels loc_two 2 word_two 4 ≡ 0 ∷ 0 ∷ 0 ∷ 0 ∷ []
labels_two = refl

-- one process and one letter
abbrev loc_one : ℕ → List ℕ
loc_one a = 0 ∷ []

-- a label is used again once no entry has it
labels_one : labels loc_one 1 (0 ∷ 0 ∷ 0 ∷ []) 3 ≡ 0 ∷ 1 ∷ 0 ∷ []
labels_one = refl

-- the letters c of processes 1 and 2, d of 1 and 3, e of 0 and 3, f of 0 and 2
abbrev loc_four : ℕ → List ℕ
loc_four zero = 1 ∷ 2 ∷ []
loc_four (suc zero) = 1 ∷ 3 ∷ []
loc_four (suc (suc zero)) = 0 ∷ 3 ∷ []
loc_four (suc (suc (suc a))) = 0 ∷ 2 ∷ []

-- e d c f
abbrev word_four : List ℕ
word_four = 2 ∷ 1 ∷ 0 ∷ 3 ∷ []

abbrev who_four : ℕ → List ℕ
who_four = participants loc_four word_four

-- the primary entries of p
abbrev primary_row : ℕ → List (Option ℕ)
primary_row p = map (primary who_four 4 p) (range_with_len 0 4)

primary_of_zero : primary_row 0 ≡ Some 3 ∷ Some 2 ∷ Some 3 ∷ Some 1 ∷ []
primary_of_zero = refl

primary_of_one : primary_row 1 ≡ Some 0 ∷ Some 2 ∷ Some 2 ∷ Some 1 ∷ []
primary_of_one = refl

primary_of_two : primary_row 2 ≡ Some 3 ∷ Some 2 ∷ Some 3 ∷ Some 1 ∷ []
primary_of_two = refl

primary_of_three : primary_row 3 ≡ Some 0 ∷ Some 1 ∷ None ∷ Some 1 ∷ []
primary_of_three = refl

-- before f, of its participants 0 and 2 the second knows more of process 3
best_of_three : best who_four 4 3 (0 ∷ 2 ∷ []) 3 ≡ 2
best_of_three = refl

-- before f process 2 shares with process 0 what it knows newest of process 0 alone
earlier_of_two : map (earlier who_four 4 3 (0 ∷ []) 2) (range_with_len 0 4) ≡ true ∷ false ∷ false ∷ false ∷ []
earlier_of_two = refl

-- of what process 0 knows newest, the event e, for processes 0 and 3, is in the past of what 2 knows newest of 3
under_of_zero : map (under who_four 4 3 (0 ∷ 2 ∷ []) 0 3) (range_with_len 0 4) ≡ true ∷ false ∷ false ∷ true ∷ []
under_of_zero = refl

-- nothing is under a participant
under_participant : map (under who_four 4 3 (0 ∷ 2 ∷ []) 0 2) (range_with_len 0 4) ≡ false ∷ false ∷ false ∷ false ∷ []
under_participant = refl

-- all that 0 knows, without the past of d, and without that of c
residue_whole : residue_word loc_four 4 word_four 4 0 (λ y. false) ≡ word_four
residue_whole = refl

residue_without_d : residue_word loc_four 4 word_four 4 0 (λ y. y == 3) ≡ 0 ∷ 3 ∷ []
residue_without_d = refl

residue_without_c : residue_word loc_four 4 word_four 4 0 (λ y. y == 1) ≡ 3 ∷ []
residue_without_c = refl

-- the numbers f.0, c.0, f.0, d.0
numbers_of_zero : map ((ids loc_four 4 word_four 4 0).primary) (range_with_len 0 4) ≡ 196 ∷ 1 ∷ 196 ∷ 66 ∷ []
numbers_of_zero = refl

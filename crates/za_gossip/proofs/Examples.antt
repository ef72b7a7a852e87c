-- The definitions computed on small words.
use Rattle.std.proofs.Common.{◌≡◌, ℕ, zero, suc, List, [], ◌∷◌, refl, replicate}
use Rattle.za_order.specs.Locals.{ids}
use Rattle.za_gossip.specs.Rows.{rows_of, rows_after}
use Rattle.za_gossip.specs.Updates.{newest, new_label, updated}

-- the letters a of process 0, b of process 1, and c of both
abbrev loc_two : ℕ → List ℕ
loc_two zero = 0 ∷ []
loc_two (suc zero) = 1 ∷ []
loc_two (suc (suc a)) = 0 ∷ 1 ∷ []

-- after c all entries are c.0
after_c : rows_after loc_two 2 (2 ∷ []) 0 ≡ (record { primary = replicate 2 19; secondary = replicate 4 19; tertiary = replicate 8 19 })
after_c = refl

-- a.0 and c.0 after a b c a
after_a_b_c_a : rows_after loc_two 2 (0 ∷ 1 ∷ 2 ∷ 0 ∷ []) 0
    ≡ (record { primary = 1 ∷ 19 ∷ []; secondary = 1 ∷ 19 ∷ 19 ∷ 19 ∷ []; tertiary = 1 ∷ replicate 7 19 })
after_a_b_c_a = refl

-- a is news to process 1, and b to process 0
newest_of_zero : newest 2 (0 ∷ 1 ∷ []) (ids loc_two 2 (0 ∷ 1 ∷ []) 2) 0 ≡ 0
newest_of_zero = refl

newest_of_one : newest 2 (0 ∷ 1 ∷ []) (ids loc_two 2 (0 ∷ 1 ∷ []) 2) 1 ≡ 1
newest_of_one = refl

-- a b c, then a: it has label 0 again
label_of_a : new_label 2 (0 ∷ []) 0 (ids loc_two 2 (0 ∷ 1 ∷ 2 ∷ []) 3) ≡ 0
label_of_a = refl

rows_of_zero : rows_of 2 (updated 2 (0 ∷ []) 0 (ids loc_two 2 (0 ∷ 1 ∷ 2 ∷ []) 3)) ≡ rows_after loc_two 2 (0 ∷ 1 ∷ 2 ∷ 0 ∷ []) 0
rows_of_zero = refl

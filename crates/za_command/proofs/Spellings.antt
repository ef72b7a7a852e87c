-- The words that are not foreign, and plans of lists that are in no form.
use Rattle.std.proofs.Common.{◌≡◌, ◌∙◌, ◌⊎◌, ℕ, Bool, true, false, ◌==◌, ◌&&◌, List, [], ◌∷◌, ◌++◌, Option, Some, None, codes, refl, sym, ap, ap₂, cond, inl}
use Rattle.std.proofs.Common.{inr, option_map, true≢false, eqb-true}
use Rattle.std.specs.Prelude.{option_and_then}
use Rattle.za_command.specs.Plans.{Text, neither, after_prefix, spelling_by, spelling, is_neither, begins_with_hyphen, is_foreign, parts_from, plan_of_lists}
use Rattle.za_command.specs.Plans.{plan_with, cache_of, with_word}

and_false : (b : Bool) → (b && false) ≡ false
and_false true = refl
and_false false = refl

prefix_is : (prefix word rest : Text) → after_prefix prefix word ≡ Some rest → word ≡ prefix ++ rest
prefix_is [] word rest e = some_is e
  where
    some_is : Some word ≡ Some rest → word ≡ rest
    some_is e = cc
prefix_is (p ∷ prefix) [] rest e = cc
prefix_is (p ∷ prefix) (b ∷ word) rest e = go (b == p) refl e (prefix_is prefix word rest)
  where
    go : (t : Bool) → (b == p) ≡ t → cond t (after_prefix prefix word) None ≡ Some rest
        → (after_prefix prefix word ≡ Some rest → word ≡ prefix ++ rest) → b ∷ word ≡ p ∷ prefix ++ rest
    go true same e next = ap₂ (λ (x : ℕ) (xs : Text). x ∷ xs) (eqb-true _ _ same) (next e)
    go false same e next = cc

abbrev pub IsSpelling : Text → Type 0
IsSpelling word = (word ≡ codes "--cache") ⊎ ((value : Text) × (word ≡ codes "--cache=" ++ value))

-- a word that is not foreign spells the option, or begins with no hyphen
pub spelled : (word : Text) → is_foreign word ≡ false → IsSpelling word ⊎ (begins_with_hyphen word ≡ false)
spelled word known = go (after_prefix (codes "--cache") word) refl
  where
    plain : (o : Option Text) → after_prefix (codes "--cache") word ≡ o → is_neither (spelling_by o) ≡ true → IsSpelling word
        ⊎ (begins_with_hyphen word ≡ false)
    plain o is lone = inr (at (begins_with_hyphen word) refl)
      where
        at : (b : Bool) → begins_with_hyphen word ≡ b → begins_with_hyphen word ≡ false
        at false e = e
        at true e = absurd (true≢false (sym (ap₂ (λ x y. x && y) e (ap (λ x. is_neither (spelling_by x)) is ∙ lone)) ∙ known))

    value : (b : ℕ) (v : Text) (t : Bool) → (b == 61) ≡ t → after_prefix (codes "--cache") word ≡ Some (b ∷ v) → IsSpelling word
        ⊎ (begins_with_hyphen word ≡ false)
    value b v true eq is = inl (inr (v, prefix_is (codes "--cache") word (b ∷ v) is ∙ ap (λ x. codes "--cache" ++ x ∷ v) (eqb-true _ _ eq)))
    value b v false eq is = plain (Some (b ∷ v)) is (rw eq refl)

    go : (o : Option Text) → after_prefix (codes "--cache") word ≡ o → IsSpelling word ⊎ (begins_with_hyphen word ≡ false)
    go None is = plain None is refl
    go (Some []) is = inl (inl (prefix_is (codes "--cache") word [] is))
    go (Some (b ∷ v)) is = value b v (b == 61) refl is

spelling_plain : (word : Text) → begins_with_hyphen word ≡ false → spelling word ≡ neither
spelling_plain [] plain = refl
spelling_plain (b ∷ word) plain = rw plain refl

pub parts_plain : (word : Text) (rest : List Text) → begins_with_hyphen word ≡ false
    → parts_from false (word ∷ rest) ≡ option_map (with_word word) (parts_from false rest)
parts_plain word rest plain = rw (spelling_plain word plain) refl

-- ---- no form

pub two_values : (ws : List Text) (u v : Text) (vs : List Text) → plan_of_lists ws (u ∷ v ∷ vs) ≡ None
two_values [] u v vs = refl
two_values (a ∷ []) u v vs = refl
two_values (a ∷ b ∷ []) u v vs = refl
two_values (a ∷ b ∷ c ∷ ws) u v vs = refl

pub three_words : (a b c : Text) (ws vs : List Text) → plan_of_lists (a ∷ b ∷ c ∷ ws) vs ≡ None
three_words a b c ws [] = refl
three_words a b c ws (v ∷ vs) = refl

pub bad_value : (ws : List Text) (v : Text) (vs : List Text) → cache_of v ≡ None → plan_of_lists ws (v ∷ vs) ≡ None
bad_value [] v vs bad = refl
bad_value (a ∷ []) v [] bad = ap (option_and_then (plan_with a)) bad
bad_value (a ∷ []) v (u ∷ vs) bad = refl
bad_value (a ∷ b ∷ []) v vs bad = refl
bad_value (a ∷ b ∷ c ∷ ws) v vs bad = refl

pub option_is_no_number : (rest : Text) → cache_of (45 ∷ 45 ∷ rest) ≡ None
option_is_no_number rest = simp and_false

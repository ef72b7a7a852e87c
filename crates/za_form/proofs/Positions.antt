-- States of the automaton of values are position values.
use Rattle.std.proofs.Common.{◌≡◌, ℕ, suc, ◌<◌, ◌≤◌, ◌^◌, Bool, true, false, inl, inr, List, [], ◌∷◌, length, map, refl, sym, ap, ◌∙◌, arith}
use Rattle.std.proofs.lemmas.Bool.{cases_lt}
use Rattle.za_alpha.specs.Words.{has, IsWord}
use Rattle.za_dfa.specs.Automata.{walk, is_accepted}
use Rattle.za_dfa.proofs.Diamonds.{walk-below}
use Rattle.za_expression.specs.declared.sign.Sign.{Sign}
use Rattle.za_expression.specs.Forms.{is_meant}
use Rattle.za_expression.specs.Grammar.{IsForm}
use Rattle.za_expression.specs.Following.{goes, following_value}
use Rattle.za_expression.specs.Values.{HasIn, HaveSameValue}
use Rattle.za_expression.proofs.Values.{Path, walk_to}
use Rattle.za_expression.proofs.Whole.{form_spans, values_by_following}
use Rattle.za_form.specs.Expressions.{letter_at}
use Rattle.za_form.specs.Private.Numbers.{has_bit, places_of, form_of, positions_of}
use Rattle.za_form.proofs.Bits.{value-places, positions-total, bit-from-places, language}
use Rattle.za_form.proofs.BitSets.{above_bit, same_bits}

-- a path ends at a place
path_end : (leads : ℕ → ℕ → Bool) (n s q : ℕ) (l : List ℕ) (p : ℕ) → Path leads n s (q ∷ l) p → 1 ≤ p
path_end leads n s q [] p h = let e = h.2 in let l = h.1.from in omega arith
path_end leads n s q (r ∷ l) p h = path_end leads n q r l p h.2

-- a place in the value of a word that isn't empty
place_in_value : (leads : ℕ → ℕ → Bool) (letter : ℕ → ℕ) (n a : ℕ) (u : List ℕ) (path : List ℕ) (s p : ℕ) → map letter path ≡ a ∷ u → Path leads n s path p →
    1 ≤ p
place_in_value leads letter n a u [] s p e h = cc
place_in_value leads letter n a u (q ∷ l) s p e h = path_end leads n s q l p h

no_start : (leads : ℕ → ℕ → Bool) (letter : ℕ → ℕ) (n a : ℕ) (u : List ℕ) → has (following_value leads letter n (a ∷ u)) 0 ≡ true → ⊥
no_start leads letter n a u h =
    let r = walk_to leads letter n (0 ∷ []) (a ∷ u) 0 h in
    let l = place_in_value leads letter n a u r.path r.source 0 r.spells r.leads_to in omega arith

both_ways : (a b : Bool) → (a ≡ true → b ≡ true) → (b ≡ true → a ≡ true) → a ≡ b
both_ways true b f g = sym (f refl)
both_ways false true f g = g refl
both_ways false false f g = refl

module _ (signs : List Sign) (letters : ℕ) (h : IsForm 1 signs (form_of signs)) where
  -- where a word leads
  abbrev pub state : List ℕ → ℕ
  state u = walk (positions_of signs letters).step 1 u

  abbrev set : List ℕ → List ℕ
  set u = following_value (goes (form_of signs)) (letter_at signs) (length signs) u

  places-are : (u : List ℕ) → places_of (length signs) (state u) ≡ set u
  places-are u = value-places (form_of signs) (letter_at signs) (length signs) letters u

  same_set : (u v : List ℕ) → set u ≡ set v → (p : ℕ) → HasIn (letter_at signs) (form_of signs) u p → HasIn (letter_at signs) (form_of signs) v p
  same_set [] [] e p x = x
  same_set [] (b ∷ v) e p x = absurd (no_start (goes (form_of signs)) (letter_at signs) (length signs) b v (ap (λ xs. has xs 0) (sym e)))
  same_set (a ∷ u) [] e p x = absurd (no_start (goes (form_of signs)) (letter_at signs) (length signs) a u (ap (λ xs. has xs 0) e))
  same_set (a ∷ u) (b ∷ v) e p x =
      (values_by_following (letter_at signs) signs (form_of signs) b v p h).0
      (ap (λ xs. has xs p) (sym e) ∙ (values_by_following (letter_at signs) signs (form_of signs) a u p h).1 x)

  same_start : (u v : List ℕ) → set u ≡ set v → u ≡ [] → v ≡ []
  same_start u [] e z = refl
  same_start [] (b ∷ v) e z = absurd (no_start (goes (form_of signs)) (letter_at signs) (length signs) b v (ap (λ xs. has xs 0) (sym e)))
  same_start (a ∷ u) (b ∷ v) e z = cc

  -- words that lead to one state have one value
  pub value_of_state : (u v : List ℕ) → state u ≡ state v → HaveSameValue (letter_at signs) (form_of signs) u v
  value_of_state u v e =
      let s : set u ≡ set v = sym (places-are u) ∙ ap (places_of (length signs)) e ∙ places-are v in
      record {
        start = (same_start u v s, same_start v u (sym s));
        set = λ p. (same_set u v s p, same_set v u (sym s) p);
      }

  pub state-below : (u : List ℕ) → IsWord letters u → state u < 2 ^ suc (length signs)
  state-below u w =
      let t = positions-total (form_of signs) (letter_at signs) (length signs) letters in
      walk-below (positions_of signs letters) t 1 u t.starts w

  bit-is : (u : List ℕ) (i : ℕ) → i < suc (length signs) → has (set u) i ≡ has_bit (state u) i
  bit-is u i l = ap (λ xs. has xs i) (sym (places-are u)) ∙ bit-from-places (length signs) (state u) i l

  same_has : (a b : ℕ) (u v : List ℕ) (p : ℕ) → HaveSameValue (letter_at signs) (form_of signs) (a ∷ u) (b ∷ v) → has (set (a ∷ u)) p ≡ has (set (b ∷ v)) p
  same_has a b u v p s =
      let x = values_by_following (letter_at signs) signs (form_of signs) a u p h in
      let y = values_by_following (letter_at signs) signs (form_of signs) b v p h in
      let i = s.set p in
      both_ways (has (set (a ∷ u)) p) (has (set (b ∷ v)) p) (λ t. y.1 (i.0 (x.0 t))) (λ t. x.1 (i.1 (y.0 t)))

  -- words of one value lead to one state
  pub state_of_value : (u v : List ℕ) → IsWord letters u → IsWord letters v → HaveSameValue (letter_at signs) (form_of signs) u v → state u ≡ state v
  state_of_value [] [] uw vw s = refl
  state_of_value [] (b ∷ v) uw vw s = let e : b ∷ v ≡ [] = s.start.0 refl in cc
  state_of_value (a ∷ u) [] uw vw s = let e : a ∷ u ≡ [] = s.start.1 refl in cc
  state_of_value (a ∷ u) (b ∷ v) uw vw s =
      same_bits (state (a ∷ u)) (state (b ∷ v)) (λ i. elim (cases_lt i (suc (length signs))) [
        | inl x ↦ sym (bit-is (a ∷ u) i x) ∙ same_has a b u v i s ∙ bit-is (b ∷ v) i x
        | inr x ↦ above_bit (state (a ∷ u)) (suc (length signs)) i (state-below (a ∷ u) uw) x ∙
            sym (above_bit (state (b ∷ v)) (suc (length signs)) i (state-below (b ∷ v) vw) x)
      ])

  pub accepted : (u : List ℕ) → is_accepted (positions_of signs letters) u ≡ is_meant (letter_at signs) (form_of signs) u
  accepted u = language (form_of signs) (letter_at signs) (length signs) letters u (form_spans signs (form_of signs) h)

-- Accepting states that are marked one by one.
use Rattle.std.proofs.Common.{◌≡◌, ℕ, ◌<◌, Bool, true, false, ◌||◌, eqb, List, [], ◌∷◌, ◌++◌, get_or, length, replicate, refl, sym, ap, ◌∙◌, arith, inl, inr}
use Rattle.std.proofs.Common.{append_assoc, set, length-set, get_or-set_other, get_or-set_same}
use Rattle.std.proofs.lemmas.Bool.{cases_eq}
use Rattle.std.proofs.lemmas.Bool.Decides.{nat_tests}
use Rattle.std.proofs.lemmas.List.{append-nil, ext_get_or, get_or-replicate, length-replicate}
use Rattle.std.proofs.lemmas.List.FromFn.{length-map-range_with_len, get_or-map-range_with_len}
use Rattle.za_alpha.specs.Words.{has}
use Rattle.za_lang.specs.Documents.{acceptance_of}
use Rattle.za_lang.specs.Gathering.{marked}

has_more : (qs : List ℕ) (q i : ℕ) → has (qs ++ q ∷ []) i ≡ (has qs i || eqb q i)
has_more [] q i = grind (arith, nat_tests)
has_more (r ∷ qs) q i = ap (λ b. eqb r i || b) (has_more qs q i) ∙ grind (arith)

or_true : (b c : Bool) → c ≡ true → (b || c) ≡ true
or_true true c h = refl
or_true false c h = h

or_false : (b c : Bool) → c ≡ false → (b || c) ≡ b
or_false true c h = refl
or_false false c h = h

marked_one : (states : ℕ) (qs : List ℕ) (q : ℕ) → set (acceptance_of states qs) q true ≡ acceptance_of states (qs ++ q ∷ [])
marked_one states qs q =
    let old = acceptance_of states qs in
    let size : length old ≡ states = length-map-range_with_len (has qs) 0 states in
    let more : length (acceptance_of states (qs ++ q ∷ [])) ≡ states = length-map-range_with_len (has (qs ++ q ∷ [])) 0 states in
    ext_get_or false (set old q true) (acceptance_of states (qs ++ q ∷ [])) (length-set old q true ∙ size ∙ sym more)
    (λ i h.
    let same = length-set old q true in
    let below : i < states = omega arith in
    let there = get_or-map-range_with_len (has (qs ++ q ∷ [])) 0 states i i false below (omega arith) in
    elim (cases_eq i q) [
      | inl e ↦
          let own : eqb q i ≡ true = grind (arith, nat_tests) in
          let inside : q < length old = omega arith in
          ap (λ k. get_or (set old q true) k false) e ∙ get_or-set_same old q true false inside
          ∙ sym (there ∙ has_more qs q i ∙ or_true (has qs i) (eqb q i) own)
      | inr other ↦
          let apart : eqb q i ≡ false = grind (arith, nat_tests) in
          get_or-set_other old q i true false other ∙ get_or-map-range_with_len (has qs) 0 states i i false below (omega arith)
          ∙ sym (there ∙ has_more qs q i ∙ or_false (has qs i) (eqb q i) apart)
    ])

-- the marked states are those named before and these
pub marked_all : (states : ℕ) (before qs : List ℕ) → marked (acceptance_of states before) qs ≡ acceptance_of states (before ++ qs)
marked_all states before [] = ap (acceptance_of states) (sym (append-nil before))
marked_all states before (q ∷ qs) =
    ap (λ bs. marked bs qs) (marked_one states before q) ∙ marked_all states (before ++ q ∷ []) qs ∙ ap (acceptance_of states) (append_assoc before (q ∷ []) qs)

-- none is named
pub marked_none : (states : ℕ) → acceptance_of states [] ≡ replicate states false
marked_none states =
    let size : length (acceptance_of states []) ≡ states = length-map-range_with_len (has []) 0 states in
    let more : length (replicate states false) ≡ states = length-replicate states false in
    ext_get_or false (acceptance_of states []) (replicate states false) (size ∙ sym more)
    (λ i h.
    let below : i < states = omega arith in
    get_or-map-range_with_len (has []) 0 states i i false below (omega arith) ∙ sym (get_or-replicate states i false false below))

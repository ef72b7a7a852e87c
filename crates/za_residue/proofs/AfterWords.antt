-- The residues after words.
use Rattle.std.proofs.Common.{◌≡◌, ℕ, ◌*◌, ◌/◌, ◌%◌, ◌^◌, ◌<◌, Bool, true, false, inl, inr, List, [], ◌∷◌, ◌++◌, length, map, sym, ap, ◌∙◌, arith}
use Rattle.std.specs.List.{range_with_len, list_any}
use Rattle.std.proofs.lemmas.Bool.{cases_Bool}
use Rattle.std.proofs.lemmas.List.FromFn.{fill_by_all, get_or-map-range_with_len, length-map-range_with_len}
use Rattle.za_alpha.specs.Words.{has, IsAlphabet, IsWord, AreEquivalent}
use Rattle.za_order.specs.Locals.{residue_word}
use Rattle.za_order.proofs.NextLetter.{length-next}
use Rattle.za_dfa.specs.Automata.{Automaton, IsTotal, HasDiamonds, walk}
use Rattle.za_dfa.proofs.GridLemmas.{row_of_cell}
use Rattle.za_residue.specs.Functions.{Functions, functions_by, in_set}
use Rattle.za_residue.specs.Residues.{residues_after}
use Rattle.za_residue.proofs.NextResidues.{reset-next, kept-next, parts-next}
use Rattle.za_residue.proofs.SameTrace.{residues_agree}

-- rules that agree at states make the same functions
pub functions-same : (n k : ℕ) (f g : ℕ → ℕ → ℕ) → ((m q : ℕ) → q < k → f m q ≡ g m q) → functions_by n k f ≡ functions_by n k g
functions-same n k f g h =
    let values = λ (rule : ℕ → ℕ → ℕ) (i : ℕ). rule (i / k) (i % k) in
    let made : List ℕ → Functions = λ xs. record { processes = n; states = k; values = xs } in
    ap made
    (fill_by_all (values g) (map (values f) (range_with_len 0 (2 ^ n * k))) (2 ^ n * k) 0 (length-map-range_with_len (values f) 0 (2 ^ n * k))
    (λ i l. get_or-map-range_with_len (values f) 0 (2 ^ n * k) i i 0 l (omega arith) ∙ h (i / k) (i % k) (row_of_cell i (2 ^ n) k l).1))

module _ (loc : ℕ → List ℕ) (n : ℕ) (d : Automaton) where
  -- residues by residue words
  residues-by-words : (u v : List ℕ) (p q : ℕ) → ((set : ℕ → Bool) → residue_word loc n u (length u) p set ≡ residue_word loc n v (length v) q set) →
      residues_after loc n d u p ≡ residues_after loc n d v q
  residues-by-words u v p q h =
      functions-same n d.states
      (λ number s. walk d.step s (residue_word loc n u (length u) p (in_set number)))
      (λ number s. walk d.step s (residue_word loc n v (length v) q (in_set number)))
      (λ number s l. ap (walk d.step s) (h (in_set number)))

  module _ (alphabet : IsAlphabet loc d.letters n) where
    module _ (w : List ℕ) (a : ℕ) (word : IsWord d.letters w) (small : a < d.letters) where
      abbrev wa : List ℕ
      wa = w ++ a ∷ []

      -- who takes no part keeps its residues
      pub residues-kept : (p : ℕ) → has (loc a) p ≡ false → residues_after loc n d wa p ≡ residues_after loc n d w p
      residues-kept p h =
          residues-by-words wa w p p
          (λ set. ap (λ m. residue_word loc n wa m p set) (length-next w a) ∙ kept-next loc d.letters n w a alphabet word small p set h)

      -- and all who take part have the same
      pub residues-joined : (p q : ℕ) → has (loc a) p ≡ true → has (loc a) q ≡ true → residues_after loc n d wa p ≡ residues_after loc n d wa q
      residues-joined p q hp hq =
          let reset = reset-next loc d.letters n w a alphabet word small in
          let parts = parts-next loc d.letters n w a alphabet word small in
          residues-by-words wa wa p q
          (λ set.
          let long = λ (p : ℕ). ap (λ m. residue_word loc n wa m p set) (length-next w a) in
          elim (cases_Bool (list_any set (loc a))) [
            | inl t ↦ long p ∙ reset p set hp t ∙ sym (long q ∙ reset q set hq t)
            | inr f ↦ long p ∙ parts p set hp f ∙ sym (long q ∙ parts q set hq f)
          ])

    -- equivalent words have the same residues
    pub residues-of-trace : IsTotal d → HasDiamonds loc d → (u v : List ℕ) (p : ℕ) → IsWord d.letters u → IsWord d.letters v → AreEquivalent loc u v →
        residues_after loc n d u p ≡ residues_after loc n d v p
    residues-of-trace total diamonds u v p wu wv e =
        functions-same n d.states
        (λ number s. walk d.step s (residue_word loc n u (length u) p (in_set number)))
        (λ number s. walk d.step s (residue_word loc n v (length v) p (in_set number)))
        (λ number s l. residues_agree loc n d u v p (in_set number) s alphabet total diamonds wu wv l e)

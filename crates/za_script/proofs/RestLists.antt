-- What a word leaves of a list of scripts.
use Rattle.std.proofs.Common.{◌≡◌, ℕ, zero, suc, ◌+◌, ◌≤◌, inl, inr, List, [], ◌∷◌, length, drop, get_or, refl, sym, ap, ◌∙◌, subst, arith}
use Rattle.std.proofs.lemmas.Bool.{cases_lt}
use Rattle.std.proofs.lemmas.List.{length-drop}
use Rattle.std.proofs.lemmas.List.Elements.{All-drop}
use Rattle.std.proofs.lemmas.List.FromFn.{length-map-range_with_len, get_or-map-range_with_len}
use Rattle.std.proofs.Math.Path.{fun_ext}
use Rattle.std.specs.List.{All}
use Rattle.za_alpha.specs.Words.{projection}
use Rattle.za_alpha.specs.Alphabet.{DistributedAlphabet, loc_of}
use Rattle.za_script.specs.Scripts.{total}
use Rattle.za_script.specs.ScriptLists.{script_of, total_of, AreScripts, FitAlphabet, IsLetterOf}
use Rattle.za_script.specs.Rests.{rests, rest_of}

past-end : {X : Type 0} (xs : List X) (n : ℕ) (d : X) → length xs ≤ n → get_or xs n d ≡ d
past-end [] n d h = refl
past-end (x ∷ xs) zero d h = absurd (omega arith)
past-end (x ∷ xs) (suc n) d h = past-end xs n d (omega arith)

drop-none : (n : ℕ) → drop {A = ℕ} n [] ≡ []
drop-none zero = refl
drop-none (suc n) = refl

-- the letters of one script more
pub total-more : (f : ℕ → List ℕ) (n : ℕ) → total f (n + 1) ≡ total f n + length (f n)
total-more f n = let e : n + 1 ≡ suc n = omega arith in ap (total f) e

-- shorter scripts have no more letters
pub total-le : (f g : ℕ → List ℕ) (n : ℕ) → ((p : ℕ) → length (f p) ≤ length (g p)) → total f n ≤ total g n
total-le f g zero h = omega arith
total-le f g (suc n) h = let a = total-le f g n h in let b = h n in omega arith

-- the totals of the first scripts are among that of all
pub total-up : (f : ℕ → List ℕ) (m n : ℕ) → m ≤ n → total f m ≤ total f n
total-up f m zero h = let e : m ≡ 0 = omega arith in subst (λ k. total f k ≤ total f 0) (sym e) (omega arith)
total-up f m (suc n) h =
    elim (cases_lt m (suc n)) [
      | inl l ↦ let k = total-up f m n (omega arith) in omega arith
      | inr g ↦ let e : m ≡ suc n = omega arith in subst (λ k. total f k ≤ total f (suc n)) (sym e) (omega arith)
    ]

module _ (alphabet : DistributedAlphabet) (scripts : List (List ℕ)) (w : List ℕ) where
  abbrev left : ℕ → List ℕ
  left = rests (loc_of alphabet) (script_of scripts) w

  pub left-shorter : (p : ℕ) → length (left p) ≤ length (script_of scripts p)
  left-shorter p = let e = length-drop (length (projection (loc_of alphabet) p w)) (script_of scripts p) in omega arith

  pub rest-length : length (rest_of alphabet scripts w) ≡ length scripts
  rest-length = length-map-range_with_len left 0 (length scripts)

  -- the rest of each script stands at its place
  pub script-rest : (p : ℕ) → script_of (rest_of alphabet scripts w) p ≡ left p
  script-rest p =
      elim (cases_lt p (length scripts)) [
        | inl l ↦ get_or-map-range_with_len left 0 (length scripts) p p [] l (omega arith)
        | inr g ↦
            let n = rest-length in
            past-end (rest_of alphabet scripts w) p [] (omega arith)
            ∙ sym (drop-none (length (projection (loc_of alphabet) p w)))
            ∙ ap (drop (length (projection (loc_of alphabet) p w))) (sym (past-end scripts p [] g))
      ]

  pub scripts-rest : script_of (rest_of alphabet scripts w) ≡ left
  scripts-rest = fun_ext script-rest

  pub total-rest : total left (length scripts) ≡ total_of (rest_of alphabet scripts w)
  total-rest = ap (λ (f : ℕ → List ℕ). total f (length scripts)) (sym scripts-rest) ∙ ap (total (script_of (rest_of alphabet scripts w))) (sym rest-length)

  pub AreScripts-rest : AreScripts scripts → AreScripts (rest_of alphabet scripts w)
  AreScripts-rest limits =
      let n = rest-length in
      let some = limits.some_process in
      let few = limits.few_processes in
      let letters = limits.few_letters in
      let less = total-le left (script_of scripts) (length scripts) left-shorter in
      let same = total-rest in
      record { some_process = omega arith; few_processes = omega arith; few_letters = omega arith }

  pub rest-fits : FitAlphabet alphabet scripts → FitAlphabet alphabet (rest_of alphabet scripts w)
  rest-fits fit =
      record {
        processes = rest-length ∙ fit.processes;
        own = λ p l.
            let n = rest-length in
            subst (All (IsLetterOf alphabet p)) (sym (script-rest p))
            (All-drop (IsLetterOf alphabet p) (length (projection (loc_of alphabet) p w)) (script_of scripts p) (fit.own p (omega arith)));
      }

  -- so far as many letters as there are in the first rests, which is no more than all scripts have
  pub letters-few : AreScripts scripts → (p : ℕ) → p ≤ length scripts → total left p ≤ total_of scripts
  letters-few limits p l =
      let less = total-le left (script_of scripts) p left-shorter in
      let up = total-up (script_of scripts) p (length scripts) l in omega arith

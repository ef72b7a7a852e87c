-- The generated scripts fit the alphabet.
use Rattle.std.proofs.Common.{◌≡◌, ℕ, ◌<◌, Bool, inl, inr, List, [], ◌∷◌, length, sym, ap, subst, ◌∙◌, arith, zero-add}
use Rattle.std.specs.List.{range_with_len, All}
use Rattle.std.proofs.lemmas.Bool.{cases_Bool, cases_lt}
use Rattle.std.proofs.lemmas.List.{get_or-map, get_or_past, length-map}
use Rattle.std.proofs.lemmas.List.FromFn.{get_or-range_with_len, length-range_with_len}
use Rattle.std.proofs.lemmas.List.Elements.{All-nil, All-cons, All-head, All-tail}
use Rattle.za_alpha.specs.Words.{has, projection, IsWord}
use Rattle.za_alpha.specs.Alphabet.{DistributedAlphabet, loc_of}
use Rattle.za_alpha.proofs.Projections.{projection-outside}
use Rattle.za_alpha.proofs.Swaps.{seen-take, seen-skip}
use Rattle.za_dfa.specs.Tables.{table_with}
use Rattle.za_lang.specs.Jobs.{JobData}
use Rattle.za_lang.specs.Namings.{LangData}
use Rattle.za_script.specs.Scripts.{Weaves}
use Rattle.za_script.specs.ScriptLists.{IsLetterOf, FitAlphabet, script_of}
use Rattle.za_gen.specs.Generated.{generated_alphabet, generated_scripts}
use Rattle.za_gen.proofs.Whole.{generated-distributed}

-- the script of a process, and where there is no such process none
pub script-is : (w : List ℕ) (p : ℕ) → p < 4 → script_of (generated_scripts w) p ≡ projection (loc_of generated_alphabet) p w
script-is w p l =
    let f : ℕ → List ℕ = λ q. projection (loc_of generated_alphabet) q w in
    let long : p < length (range_with_len 0 4) = omega (arith, length-range_with_len 0 4) in
    get_or-map f (range_with_len 0 4) p 0 [] long ∙ ap f (get_or-range_with_len 0 4 p 0 l ∙ zero-add p)

pub scripts-size : (w : List ℕ) → length (generated_scripts w) ≡ 4
scripts-size w = length-map (range_with_len 0 4) (λ p. projection (loc_of generated_alphabet) p w) ∙ length-range_with_len 0 4

-- the word weaves its scripts
pub generated-weaves : (w : List ℕ) → IsWord 8 w → Weaves (loc_of generated_alphabet) 8 (script_of (generated_scripts w)) w
generated-weaves w h =
    record {
      word = h;
      whole = λ p. elim (cases_lt p 4) [
        | inl l ↦ sym (script-is w p l)
        | inr g ↦
            projection-outside (loc_of generated_alphabet) 8 4 p w generated-distributed.located h g
            ∙ sym (get_or_past (generated_scripts w) p [] (omega (arith, scripts-size w)))
      ];
    }

-- what a process sees are letters of it
own-letters : (p : ℕ) (w : List ℕ) → IsWord 8 w → All (IsLetterOf generated_alphabet p) (projection (loc_of generated_alphabet) p w)
own-letters p [] h = All-nil (IsLetterOf generated_alphabet p)
own-letters p (a ∷ w) h =
    let P : ℕ → Type 0 = λ b. b < 8 in
    let loc = loc_of generated_alphabet in
    let is = IsLetterOf generated_alphabet p in
    let rest = own-letters p w (All-tail P a w h) in
    elim (cases_Bool (has (loc a) p)) [
      | inl t ↦ subst (All is) (sym (seen-take loc p a w t)) (All-cons is a (projection loc p w) (record { letter = All-head P a w h; own = t }) rest)
      | inr f ↦ subst (All is) (sym (seen-skip loc p a w f)) rest
    ]

pub generated-fit : (w : List ℕ) → IsWord 8 w → FitAlphabet generated_alphabet (generated_scripts w)
generated-fit w h =
    record {
      processes = scripts-size w;
      own = λ p l. subst (All (IsLetterOf generated_alphabet p)) (sym (script-is w p (omega (arith, scripts-size w)))) (own-letters p w h);
    }

-- equal parts make equal tables and jobs
pub same-table : (a b : DistributedAlphabet) (xs ys : List Bool) (ts us : List ℕ) → a ≡ b → xs ≡ ys → ts ≡ us → table_with a 0 xs ts ≡ table_with b 0 ys us
same-table a b xs ys ts us p q r = ap (λ (x : DistributedAlphabet). table_with x 0 xs ts) p ∙ ap (λ (x : List Bool). table_with b 0 x ts) q
    ∙ ap (λ (x : List ℕ). table_with b 0 ys x) r

pub same-job : (l m : LangData) (s t : List (List ℕ)) → l ≡ m → s ≡ t →
    ◌≡◌ {A = JobData} (record { naming = l.naming; lang = l.table; scripts = s }) (record { naming = m.naming; lang = m.table; scripts = t })
same-job l m s t p q =
    ap (λ (x : LangData). let job : JobData = record { naming = x.naming; lang = x.table; scripts = s } in job) p
    ∙ ap (λ xs. let job : JobData = record { naming = m.naming; lang = m.table; scripts = xs } in job) q

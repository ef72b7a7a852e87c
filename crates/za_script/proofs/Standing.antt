-- Where the loop of a weaving stands: the word so far is what the definition has made.
use Rattle.std.proofs.Common.{◌≡◌, ℕ, zero, suc, ◌+◌, ◌-◌, ◌<◌, ◌≤◌, true, false, ◌↔◌, inl, inr, List, [], ◌∷◌, ◌++◌, ◌==◌, length, slice_index, nat_lt, refl}
use Rattle.std.proofs.Common.{sym, ap, subst, ◌∙◌, arith, cond, length-append, ltb-true, eqb-true, append-nil}
use Rattle.std.specs.List.{All}
use Rattle.std.proofs.lemmas.Bool.{cases_Bool, cases_lt, lt-ltb, le-ltb, cond-true, cond-false, and_parts}
use Rattle.std.proofs.lemmas.List.{get_or_past}
use Rattle.std.proofs.lemmas.List.Elements.{All-nil, filter-append}
use Rattle.za_alpha.specs.declared.procs.Procs.{Procs}
use Rattle.za_alpha.specs.Words.{has, IsAlphabet, projection}
use Rattle.za_alpha.specs.Search.{least}
use Rattle.za_alpha.specs.Alphabet.{DistributedAlphabet, loc_of}
use Rattle.za_alpha.proofs.Swaps.{seen-take, seen-skip}
use Rattle.za_script.specs.Scripts.{comes_next, is_enabled, weave_from, total, weave, Fits, Weaves}
use Rattle.za_script.specs.ScriptLists.{script_of, IsLetterOf, FitAlphabet}
use Rattle.za_script.specs.Private.Weaving.{IsReady, IsGathered, IsLeastGathered, NoneGathered}
use Rattle.za_alpha.proofs.Least.{least-is, least-none}
use Rattle.za_script.proofs.Lists.{all-at, all-from}
use Rattle.za_script.proofs.Confluence.{fits-more, fits-length, empty-fits}

-- the letter that comes next is one of the script
next-own : (P : ℕ → Type 0) (script : List ℕ) (n a : ℕ) → comes_next script n a ≡ true → All P script → P a
next-own P script n a h all =
    let k = and_parts (nat_lt n (length script)) (slice_index script n == a) h in
    subst P (eqb-true (slice_index script n) a k.1) (all n 0 (ltb-true n (length script) k.0))

-- each letter of a script is one of its process
own-letters : (alphabet : DistributedAlphabet) (scripts : List (List ℕ)) (p : ℕ) → FitAlphabet alphabet scripts →
    All (IsLetterOf alphabet p) (script_of scripts p)
own-letters alphabet scripts p fit =
    elim (cases_lt p (length scripts)) [
      | inl lt ↦ fit.own p lt
      | inr ge ↦ subst (λ w. All (IsLetterOf alphabet p) w) (sym (get_or_past scripts p [] ge)) (All-nil (IsLetterOf alphabet p))
    ]

module _ (loc : ℕ → List ℕ) (letters : ℕ) (scripts : ℕ → List ℕ) where
  -- the weave ends where no letter is enabled
  pub from-end : (more : ℕ) (w : List ℕ) → letters ≤ least (is_enabled loc scripts w) letters → weave_from loc letters scripts more w ≡ w
  from-end zero w h = refl
  from-end (suc more) w h =
      let a = least (is_enabled loc scripts w) letters in
      ap (λ b. elim b [ true ↦ weave_from loc letters scripts more (w ++ a ∷ []) | false ↦ w ]) (le-ltb a letters h)

  -- and goes on by the least that is
  pub from-step : (more n : ℕ) (w : List ℕ) (a : ℕ) → a ≡ least (is_enabled loc scripts w) letters → a < letters → more ≡ suc n →
      weave_from loc letters scripts more w ≡ weave_from loc letters scripts n (w ++ a ∷ [])
  from-step zero n w a e l m = absurd (omega arith)
  from-step (suc more) n w a e l m =
      let b = least (is_enabled loc scripts w) letters in
      let k : more ≡ n = omega arith in
      ap (λ t. elim t [ true ↦ weave_from loc letters scripts more (w ++ b ∷ []) | false ↦ w ]) (lt-ltb b letters (rw (← e) l))
      ∙ ap (λ x. weave_from loc letters scripts more (w ++ x ∷ [])) (sym e) ∙ ap (λ x. weave_from loc letters scripts x (w ++ a ∷ [])) k

-- where the loop stands
pub record Stands (alphabet : DistributedAlphabet) (scripts : List (List ℕ)) (places : List ℕ) (sets : List Procs) (word : List ℕ) : Type 0 where
  pub fits : Fits (loc_of alphabet) (length alphabet.letters) (script_of scripts) word
  pub size : length places ≡ alphabet.processes
  pub letters : length sets ≡ length alphabet.letters
  pub seen : (p : ℕ) → p < alphabet.processes → slice_index places p ≡ length (projection (loc_of alphabet) p word)
  pub ready : IsReady (script_of scripts) places sets
  pub same : weave (loc_of alphabet) (length alphabet.letters) alphabet.processes (script_of scripts) ≡
      weave_from (loc_of alphabet) (length alphabet.letters) (script_of scripts) (total (script_of scripts) alphabet.processes - length word) word

-- one letter more is one more at each of its processes
pub seen-more : (loc : ℕ → List ℕ) (places moved word : List ℕ) (a p : ℕ) → slice_index moved p ≡ slice_index places p + cond (has (loc a) p) 1 0 →
    slice_index places p ≡ length (projection loc p word) → slice_index moved p ≡ length (projection loc p (word ++ a ∷ []))
seen-more loc places moved word a p m o =
    let f = ap length (filter-append (λ b. has (loc b) p) word (a ∷ [])) ∙ length-append (projection loc p word) (projection loc p (a ∷ [])) in
    elim (cases_Bool (has (loc a) p)) [
      | inl t ↦ let z = ap length (seen-take loc p a [] t) in let y : cond {A = ℕ} (has (loc a) p) 1 0 ≡ 1 = cond-true (has (loc a) p) 1 0 t in omega arith
      | inr t ↦ let z = ap length (seen-skip loc p a [] t) in let y : cond {A = ℕ} (has (loc a) p) 1 0 ≡ 0 = cond-false (has (loc a) p) 1 0 t in omega arith
    ]

-- a word that fits, with these counts, weaves the scripts exactly if each is used up
pub used-up : (alphabet : DistributedAlphabet) (scripts : List (List ℕ)) → FitAlphabet alphabet scripts → (places word : List ℕ) →
    Fits (loc_of alphabet) (length alphabet.letters) (script_of scripts) word →
    ((p : ℕ) → p < alphabet.processes → slice_index places p ≡ length (projection (loc_of alphabet) p word)) →
    (((p : ℕ) → p < length scripts → slice_index places p ≡ length (script_of scripts p))
    ↔ Weaves (loc_of alphabet) (length alphabet.letters) (script_of scripts) word)
used-up alphabet scripts fit places word fits seen = (
  λ used. record {
    word = fits.word;
    whole = λ p.
        let k = fits.prefix p in
        let e = ap length k.1 in
        let l = length-append (projection (loc_of alphabet) p word) k.0 in
        let n = fit.processes in
        elim (cases_lt p (length scripts)) [
          | inl lt ↦
              let u = used p lt in
              let o = seen p (omega arith) in
              let none : k.0 ≡ [] = length-none k.0 (omega arith) in
              sym (append-nil (projection (loc_of alphabet) p word)) ∙ ap (λ r. projection (loc_of alphabet) p word ++ r) (sym none) ∙ k.1
          | inr ge ↦
              let past : length (script_of scripts p) ≡ 0 = ap length (get_or_past scripts p [] ge) in
              let none : k.0 ≡ [] = length-none k.0 (omega arith) in
              sym (append-nil (projection (loc_of alphabet) p word)) ∙ ap (λ r. projection (loc_of alphabet) p word ++ r) (sym none) ∙ k.1
        ];
  },
  λ weaves p l. let n = fit.processes in seen p (omega arith) ∙ ap length (weaves.whole p),
)
  where
    length-none : (xs : List ℕ) → length xs ≡ 0 → xs ≡ []
    length-none [] h = refl
    length-none (x ∷ xs) h = absurd (omega arith)

module _ (alphabet : DistributedAlphabet) (scripts : List (List ℕ)) (al : IsAlphabet (loc_of alphabet) (length alphabet.letters) alphabet.processes)
    (fit : FitAlphabet alphabet scripts) where
  -- a complete letter is enabled
  complete-enabled : (places : List ℕ) (sets : List Procs) (word : List ℕ) (a : ℕ) → Stands alphabet scripts places sets word → a < length alphabet.letters →
      IsGathered alphabet sets a →
      is_enabled (loc_of alphabet) (script_of scripts) word a ≡ true
  complete-enabled places sets word a s la k =
      all-from (λ p. comes_next (script_of scripts p) (length (projection (loc_of alphabet) p word)) a) (loc_of alphabet a)
      (λ p own.
      let size = s.letters in
      ap (λ n. comes_next (script_of scripts p) n a) (sym (s.seen p (al.below a p la own))) ∙ sym (s.ready.next a p (omega arith)) ∙ k.same p ∙ own)

  -- an enabled letter is complete
  enabled-complete : (places : List ℕ) (sets : List Procs) (word : List ℕ) (a : ℕ) → Stands alphabet scripts places sets word → a < length alphabet.letters →
      is_enabled (loc_of alphabet) (script_of scripts) word a ≡ true → IsGathered alphabet sets a
  enabled-complete places sets word a s la on =
      record {
        same = λ p.
            let size = s.letters in
            s.ready.next a p (omega arith) ∙ elim (cases_Bool (has (loc_of alphabet a) p)) [
              | inl t ↦
                  ap (λ n. comes_next (script_of scripts p) n a) (s.seen p (al.below a p la t))
                  ∙ all-at (λ q. comes_next (script_of scripts q) (length (projection (loc_of alphabet) q word)) a) (loc_of alphabet a) p on t ∙ sym t
              | inr f ↦ elim (cases_Bool (comes_next (script_of scripts p) (slice_index places p) a)) [
                | inl h ↦
                    let own = (next-own (IsLetterOf alphabet p) (script_of scripts p) (slice_index places p) a h (own-letters alphabet scripts p fit)).own in
                    absurd (let e : true ≡ false = sym own ∙ f in cc)
                | inr h ↦ h ∙ sym f
              ]
            ];
      }

  -- the least complete letter is the least enabled one
  least-next : (places : List ℕ) (sets : List Procs) (word : List ℕ) (a : ℕ) → Stands alphabet scripts places sets word → IsLeastGathered alphabet sets a →
      a ≡ least (is_enabled (loc_of alphabet) (script_of scripts) word) (length alphabet.letters)
  least-next places sets word a s k =
      let l = k.letter in
      least-is (is_enabled (loc_of alphabet) (script_of scripts) word) (length alphabet.letters) a l
      (λ b lb.
      elim (cases_Bool (is_enabled (loc_of alphabet) (script_of scripts) word b)) [
        | inl on ↦ absurd (k.below b lb (enabled-complete places sets word b s (omega arith) on))
        | inr off ↦ off
      ])
      (complete-enabled places sets word a s l k.complete)

  -- the loop begins
  pub stands-start : (places : List ℕ) (sets : List Procs) → length places ≡ alphabet.processes → length sets ≡ length alphabet.letters →
      ((p : ℕ) → p < alphabet.processes → slice_index places p ≡ 0) →
      IsReady (script_of scripts) places sets → Stands alphabet scripts places sets []
  stands-start places sets size letters begin ready =
      record {
        fits = empty-fits (loc_of alphabet) (length alphabet.letters) (script_of scripts);
        size = size;
        letters = letters;
        seen = begin;
        ready = ready;
        same = ap (λ n. weave_from (loc_of alphabet) (length alphabet.letters) (script_of scripts) n []) (omega arith);
      }

  -- a letter that is fired is one more of the word
  pub stands-step : (places moved : List ℕ) (sets more : List Procs) (word : List ℕ) (a : ℕ) → Stands alphabet scripts places sets word →
      IsLeastGathered alphabet sets a →
      length moved ≡ length places → length more ≡ length sets →
      ((p : ℕ) → p < length scripts → slice_index moved p ≡ slice_index places p + cond (has (loc_of alphabet a) p) 1 0) →
      IsReady (script_of scripts) moved more →
      Stands alphabet scripts moved more (word ++ a ∷ [])
  stands-step places moved sets more word a s k size letters step ready =
      let loc = loc_of alphabet in
      let own = complete-enabled places sets word a s k.letter k.complete in
      let fits = fits-more loc (length alphabet.letters) (script_of scripts) word a k.letter s.fits own in
      let room = fits-length loc (length alphabet.letters) (script_of scripts) alphabet.processes (word ++ a ∷ []) al fits in
      let lw = length-append word (a ∷ []) in
      record {
        fits = fits;
        size = size ∙ s.size;
        letters = letters ∙ s.letters;
        seen = λ p pl. let n = fit.processes in seen-more loc places moved word a p (step p (omega arith)) (s.seen p pl);
        ready = ready;
        same = s.same
            ∙ from-step loc (length alphabet.letters) (script_of scripts) (total (script_of scripts) alphabet.processes - length word)
            (total (script_of scripts) alphabet.processes - length (word ++ a ∷ [])) word a (least-next places sets word a s k) k.letter (omega arith);
      }

  -- while a letter is fired, there is room in the scripts
  pub stands-room : (places : List ℕ) (sets : List Procs) (word : List ℕ) (a : ℕ) → Stands alphabet scripts places sets word → IsLeastGathered alphabet sets a →
      length word < total (script_of scripts) alphabet.processes
  stands-room places sets word a s k =
      let own = complete-enabled places sets word a s k.letter k.complete in
      let fits = fits-more (loc_of alphabet) (length alphabet.letters) (script_of scripts) word a k.letter s.fits own in
      let room = fits-length (loc_of alphabet) (length alphabet.letters) (script_of scripts) alphabet.processes (word ++ a ∷ []) al fits in
      let lw = length-append word (a ∷ []) in omega arith

  -- the loop ends with the weave
  pub stands-end : (places : List ℕ) (sets : List Procs) (word : List ℕ) → Stands alphabet scripts places sets word → NoneGathered alphabet sets →
      word ≡ weave (loc_of alphabet) (length alphabet.letters) alphabet.processes (script_of scripts)
  stands-end places sets word s none =
      let e = least-none (is_enabled (loc_of alphabet) (script_of scripts) word) (length alphabet.letters) (λ b lb.
      elim (cases_Bool (is_enabled (loc_of alphabet) (script_of scripts) word b)) [
        | inl on ↦ absurd (none.none b lb (enabled-complete places sets word b s lb on))
        | inr off ↦ off
      ]) in
      sym (s.same ∙ from-end (loc_of alphabet) (length alphabet.letters) (script_of scripts) (total (script_of scripts) alphabet.processes - length word) word
      (omega arith))

  -- the word weaves the scripts exactly if each is used up
  pub stands-whole : (places : List ℕ) (sets : List Procs) (word : List ℕ) → Stands alphabet scripts places sets word →
      (((p : ℕ) → p < length scripts → slice_index places p ≡ length (script_of scripts p))
      ↔ Weaves (loc_of alphabet) (length alphabet.letters) (script_of scripts) word)
  stands-whole places sets word s = used-up alphabet scripts fit places word s.fits s.seen

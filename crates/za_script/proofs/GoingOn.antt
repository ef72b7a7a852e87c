-- Weaving goes on from a word: the letters that follow are those that the rests of the scripts weave.
use Rattle.std.proofs.Common.{◌≡◌, ℕ, zero, suc, ◌+◌, ◌<◌, ◌≤◌, false, Bool, ◌&&◌, inl, inr, List, [], ◌∷◌, ◌++◌, ◌==◌, length, take, drop, slice_index, refl}
use Rattle.std.proofs.Common.{sym, ap, subst, ◌∙◌, arith, length-append, append_assoc, append-nil, nat_lt}
use Rattle.std.proofs.Math.Seq.{drop-append_seam}
use Rattle.std.proofs.lemmas.Bool.{cases_lt, lt-ltb, le-ltb, cases_Bool}
use Rattle.std.proofs.lemmas.List.{length-drop, get_or-drop, take-append-drop}
use Rattle.std.proofs.lemmas.List.Elements.{filter-append, All-append}
use Rattle.za_alpha.specs.Words.{has, IsAlphabet, projection}
use Rattle.za_alpha.specs.Search.{least}
use Rattle.za_alpha.proofs.Swaps.{all-left}
use Rattle.za_alpha.proofs.Least.{least-true, least-below, least-none}
use Rattle.za_script.specs.Scripts.{comes_next, is_enabled, weave_from, total, weave, Fits, FitsMaximally}
use Rattle.za_script.proofs.Lists.{all-agree, same_front}
use Rattle.za_script.proofs.Confluence.{fits-more, fits-length, weave_is_maximal, maximal-one}
use Rattle.za_script.proofs.Standing.{from-end, from-step}
use Rattle.za_script.specs.Rests.{rests}
use Rattle.za_script.specs.RestLaws.{WeavingGoesOn, CutsFit, CutsWeaveOn, RestIsOneTrace, CountsAddUp}

-- the least number that passes is that of tests that agree
pub least-same : (s t : ℕ → Bool) (n : ℕ) → ((k : ℕ) → s k ≡ t k) → least s n ≡ least t n
least-same s t zero h = refl
least-same s t (suc n) h =
    let e = h 0 in
    let k = least-same (λ i. s (suc i)) (λ i. t (suc i)) n (λ i. h (suc i)) in cc

-- what comes next in the rest of a script
next-rest : (s : List ℕ) (k m a : ℕ) → comes_next (drop k s) m a ≡ comes_next s (k + m) a
next-rest s k m a =
    let l = length-drop k s in
    let x : slice_index (drop k s) m ≡ slice_index s (k + m) = get_or-drop k s m 0 in
    let t : nat_lt m (length (drop k s)) ≡ nat_lt (k + m) (length s) = elim (cases_lt m (length (drop k s))) [
      | inl lt ↦ lt-ltb m (length (drop k s)) lt ∙ sym (lt-ltb (k + m) (length s) (omega arith))
      | inr ge ↦ le-ltb m (length (drop k s)) ge ∙ sym (le-ltb (k + m) (length s) (omega arith))
    ] in
    ap (λ b. b && (slice_index (drop k s) m == a)) t ∙ ap (λ y. nat_lt (k + m) (length s) && (y == a)) x

module _ (loc : ℕ → List ℕ) (letters : ℕ) (scripts : ℕ → List ℕ) where
  ends : (more : ℕ) (w : List ℕ) → letters ≤ least (is_enabled loc scripts w) letters → weave_from loc letters scripts more w ≡ w
  ends more w h = from-end loc letters scripts more w h

  goes-on : (more : ℕ) (w : List ℕ) → least (is_enabled loc scripts w) letters < letters →
      weave_from loc letters scripts (suc more) w ≡ weave_from loc letters scripts more (w ++ least (is_enabled loc scripts w) letters ∷ [])
  goes-on more w l = from-step loc letters scripts (suc more) more w (least (is_enabled loc scripts w) letters) refl l refl

  -- no letter is enabled after the word
  pub record IsOver (w : List ℕ) : Type 0 where
    pub stuck : (a : ℕ) → a < letters → is_enabled loc scripts w a ≡ false

  -- a weave that is over is no longer with more turns
  pub more-turns : (n m : ℕ) (w : List ℕ) → n ≤ m → IsOver (weave_from loc letters scripts n w) →
      weave_from loc letters scripts m w ≡ weave_from loc letters scripts n w
  more-turns zero m w le o = ends m w (let e = least-none (is_enabled loc scripts w) letters o.stuck in omega arith)
  more-turns (suc n) zero w le o = absurd (omega arith)
  more-turns (suc n) (suc m) w le o =
      let a = least (is_enabled loc scripts w) letters in
      elim (cases_lt a letters) [
        | inl l ↦ goes-on m w l ∙ more-turns n m (w ++ a ∷ []) (omega arith) (subst IsOver (goes-on n w l) o) ∙ sym (goes-on n w l)
        | inr g ↦ ends (suc m) w g ∙ sym (ends (suc n) w g)
      ]

  -- two weaves that are over are one
  pub over-same : (n m : ℕ) (w : List ℕ) → IsOver (weave_from loc letters scripts n w) → IsOver (weave_from loc letters scripts m w) →
      weave_from loc letters scripts n w ≡ weave_from loc letters scripts m w
  over-same n m w on om =
      elim (cases_lt n m) [
        | inl l ↦ sym (more-turns n m w (omega arith) on)
        | inr g ↦ more-turns m n w g om
      ]

  -- with enough turns it is over
  pub over-late : (processes more : ℕ) (w : List ℕ) → IsAlphabet loc letters processes → Fits loc letters scripts w →
      total scripts processes ≤ length w + more → IsOver (weave_from loc letters scripts more w)
  over-late processes zero w al f t =
      record {
        stuck = λ a la. elim (cases_Bool (is_enabled loc scripts w a)) [
          | inr off ↦ off
          | inl on ↦ absurd (let k = fits-length loc letters scripts processes (w ++ a ∷ []) al (fits-more loc letters scripts w a la f on) in let e =
              length-append w (a ∷ []) in omega arith)
        ];
      }
  over-late processes (suc more) w al f t =
      let a = least (is_enabled loc scripts w) letters in
      elim (cases_lt a letters) [
        | inl l ↦
            let g = fits-more loc letters scripts w a l f (least-true (is_enabled loc scripts w) letters l) in
            subst IsOver (sym (goes-on more w l)) (over-late processes more (w ++ a ∷ []) al g (let k = length-append w (a ∷ []) in omega arith))
        | inr g ↦ subst IsOver (sym (ends (suc more) w g)) (record { stuck = λ k l. least-below (is_enabled loc scripts w) letters k (omega arith) })
      ]

module _ (loc : ℕ → List ℕ) (letters : ℕ) (scripts : ℕ → List ℕ) (w : List ℕ) where
  -- how many letters of a process a longer word has
  pub seen-length : (p : ℕ) (v : List ℕ) → length (projection loc p (w ++ v)) ≡ length (projection loc p w) + length (projection loc p v)
  seen-length p v = ap length (filter-append (λ a. has (loc a) p) w v) ∙ length-append (projection loc p w) (projection loc p v)

  -- the rests enable after a word what the scripts enable after both
  pub enabled-rest : (v : List ℕ) (a : ℕ) → is_enabled loc scripts (w ++ v) a ≡ is_enabled loc (rests loc scripts w) v a
  enabled-rest v a =
      all-agree (λ p. comes_next (scripts p) (length (projection loc p (w ++ v))) a) (λ p. comes_next (rests loc scripts w p) (length (projection loc p v)) a)
      (loc a)
      (λ p h. ap (λ n. comes_next (scripts p) n a) (seen-length p v)
      ∙ sym (next-rest (scripts p) (length (projection loc p w)) (length (projection loc p v)) a))

  -- so weaving on is weaving the rests
  pub weave-rest : (more : ℕ) (v : List ℕ) → weave_from loc letters scripts more (w ++ v) ≡ w ++ weave_from loc letters (rests loc scripts w) more v
  weave-rest zero v = refl
  weave-rest (suc more) v =
      let a = least (is_enabled loc scripts (w ++ v)) letters in
      let b = least (is_enabled loc (rests loc scripts w) v) letters in
      let e : a ≡ b = least-same (is_enabled loc scripts (w ++ v)) (is_enabled loc (rests loc scripts w) v) letters (enabled-rest v) in
      elim (cases_lt a letters) [
        | inl l ↦
            goes-on loc letters scripts more (w ++ v) l ∙ ap (weave_from loc letters scripts more) (append_assoc w v (a ∷ [])) ∙ weave-rest more (v ++ a ∷ [])
            ∙ ap (λ x. w ++ weave_from loc letters (rests loc scripts w) more (v ++ x ∷ [])) e
            ∙ ap (λ x. w ++ x) (sym (goes-on loc letters (rests loc scripts w) more v (omega arith)))
        | inr g ↦ ends loc letters scripts (suc more) (w ++ v) g ∙ ap (λ x. w ++ x) (sym (ends loc letters (rests loc scripts w) (suc more) v (omega arith)))
      ]

  pub weave-all-rest : (more : ℕ) → weave_from loc letters scripts more w ≡ w ++ weave_from loc letters (rests loc scripts w) more []
  weave-all-rest more = ap (weave_from loc letters scripts more) (sym (append-nil w)) ∙ weave-rest more []

pub weaving_goes_on : WeavingGoesOn
weaving_goes_on loc letters processes scripts more w al f t =
    let rest = rests loc scripts w in
    let over = over-late loc letters scripts processes more w al f t in
    let on = weave-all-rest loc letters scripts w more in
    let left : IsOver loc letters rest (weave_from loc letters rest more []) =
    record {
      stuck = λ a l. sym (enabled-rest loc letters scripts w (weave_from loc letters rest more []) a) ∙ ap (λ x. is_enabled loc scripts x a) (sym on)
          ∙ over.stuck a l;
    } in
    on ∙ ap (λ x. w ++ x) (over-same loc letters rest more (total rest processes) [] left
    (record { stuck = (weave_is_maximal loc letters processes rest al).stuck }))

-- a beginning of a weave is come to after as many turns
pub cut-at : (loc : ℕ → List ℕ) (letters : ℕ) (scripts : ℕ → List ℕ) (n : ℕ) (v u x : List ℕ) → weave_from loc letters scripts n v ≡ u
    ++ x → length v ≤ length u →
    (m : ℕ) × (m + length u ≡ n + length v) × (weave_from loc letters scripts n v ≡ weave_from loc letters scripts m u)
cut-at loc letters scripts zero v u x e le =
    let l = ap length e ∙ length-append u x in
    let s = same_front v [] u x (append-nil v ∙ e) (omega arith) in (0, omega (arith, ap length s), s)
cut-at loc letters scripts (suc n) v u x e le =
    let a = least (is_enabled loc scripts v) letters in
    elim (cases_lt (length v) (length u)) [
      | inl lt ↦ elim (cases_lt a letters) [
        | inl l ↦
            let step = goes-on loc letters scripts n v l in
            let k = length-append v (a ∷ []) in
            let r = cut-at loc letters scripts n (v ++ a ∷ []) u x (sym step ∙ e) (omega arith) in
            let many = r.1 in (r.0, omega arith, step ∙ r.2)
        | inr g ↦ absurd (let l = ap length (sym (ends loc letters scripts (suc n) v g) ∙ e) ∙ length-append u x in omega arith)
      ]
      | inr ge ↦
          let s = same_front v (weave_from loc letters (rests loc scripts v) (suc n) []) u x (sym (weave-all-rest loc letters scripts v (suc n)) ∙ e)
          (omega arith) in
          (suc n, omega (arith, ap length s), ap (weave_from loc letters scripts (suc n)) s)
    ]

-- a beginning of a word that fits does so too
pub fits-front : (loc : ℕ → List ℕ) (letters : ℕ) (scripts : ℕ → List ℕ) (u x : List ℕ) → Fits loc letters scripts (u ++ x) → Fits loc letters scripts u
fits-front loc letters scripts u x f =
    record {
      word = all-left (λ a. a < letters) u x f.word;
      prefix = λ p.
          let k = f.prefix p in (
            projection loc p x ++ k.0,
            sym (append_assoc (projection loc p u) (projection loc p x) k.0) ∙ ap (λ y. y ++ k.0) (sym (filter-append (λ a. has (loc a) p) u x)) ∙ k.1,
          );
    }

pub cuts_fit : CutsFit
cuts_fit loc letters processes scripts k al =
    let whole = weave loc letters processes scripts in
    fits-front loc letters scripts (take k whole) (drop k whole)
    (subst (Fits loc letters scripts) (sym (take-append-drop k whole)) (weave_is_maximal loc letters processes scripts al).fits)

pub cuts_weave_on : CutsWeaveOn
cuts_weave_on loc letters processes scripts k al =
    let whole = weave loc letters processes scripts in
    let w = take k whole in
    let r = cut-at loc letters scripts (total scripts processes) [] w (drop k whole) (sym (take-append-drop k whole)) (omega arith) in
    let many = r.1 in
    r.2 ∙ weaving_goes_on loc letters processes scripts r.0 w al (cuts_fit loc letters processes scripts k al) (omega arith)

module _ (loc : ℕ → List ℕ) (letters : ℕ) (scripts : ℕ → List ℕ) (w : List ℕ) (f : Fits loc letters scripts w) where
  -- the projection of the word and the rest are the script
  pub script-parts : (p : ℕ) → projection loc p w ++ rests loc scripts w p ≡ scripts p
  script-parts p =
      let k = f.prefix p in
      let e : rests loc scripts w p ≡ k.0 = ap (drop (length (projection loc p w))) (sym k.1) ∙ drop-append_seam (projection loc p w) k.0 in
      ap (λ x. projection loc p w ++ x) e ∙ k.1

  -- a word that fits the rests goes on
  pub fits-join : (v : List ℕ) → Fits loc letters (rests loc scripts w) v → Fits loc letters scripts (w ++ v)
  fits-join v g =
      record {
        word = All-append (λ a. a < letters) w v f.word g.word;
        prefix = λ p.
            let k = g.prefix p in (
              k.0,
              ap (λ x. x ++ k.0) (filter-append (λ a. has (loc a) p) w v) ∙ append_assoc (projection loc p w) (projection loc p v) k.0
                  ∙ ap (λ x. projection loc p w ++ x) k.1 ∙ script-parts p,
            );
      }

  pub maximal-join : (v : List ℕ) → FitsMaximally loc letters (rests loc scripts w) v → FitsMaximally loc letters scripts (w ++ v)
  maximal-join v m = record { fits = fits-join v m.fits; stuck = λ a l. enabled-rest loc letters scripts w v a ∙ m.stuck a l }

pub rest_is_one_trace : RestIsOneTrace
rest_is_one_trace loc letters processes scripts w al f =
    let v = weave loc letters processes (rests loc scripts w) in
    maximal-one loc letters processes scripts (w ++ v) al
    (maximal-join loc letters scripts w f v (weave_is_maximal loc letters processes (rests loc scripts w) al))

pub counts_add_up : CountsAddUp
counts_add_up loc letters processes scripts w p al f =
    sym (seen-length loc letters scripts w p (weave loc letters processes (rests loc scripts w)))
    ∙ ap length (rest_is_one_trace loc letters processes scripts w al f p)

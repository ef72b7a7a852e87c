-- The weave fits the scripts maximally, and the words that do are one trace.
use Rattle.std.proofs.Common.{◌≡◌, ℕ, zero, suc, ◌+◌, ◌<◌, ◌≤◌, true, false, inl, inr, List, [], ◌∷◌, ◌++◌, ◌==◌, length, slice_index, refl, sym, ap, subst}
use Rattle.std.proofs.Common.{◌∙◌, arith, eqb-true, eq-eqb, length-append, append_assoc, nat_lt, ltb-true, ltb-false, append-nil}
use Rattle.std.proofs.Math.Seq.{get_or-append_seam}
use Rattle.std.proofs.lemmas.Bool.{cases_Bool, cases_lt, cases_eq, and_parts, and_from, lt-ltb}
use Rattle.std.proofs.lemmas.List.Elements.{filter-append, All-head, All-tail, All-nil, All-push}
use Rattle.za_alpha.specs.Words.{has, IsAlphabet, IsWord, projection, AreEquivalent}
use Rattle.za_alpha.specs.Search.{least}
use Rattle.za_script.specs.Scripts.{comes_next, is_enabled, weave_from, total, weave, Fits, FitsMaximally, Weaves}
use Rattle.za_alpha.proofs.Swaps.{seen-take, seen-skip, all-right}
use Rattle.za_script.specs.Laws.{WeaveIsMaximal, MaximalWordsAreOneTrace, WeaveDecides, MaximalWordsWeave}
use Rattle.za_alpha.proofs.Least.{least-true, least-below}
use Rattle.za_script.proofs.Lists.{all-at, all-fails, all-agree, count, same_front, longer_front, count-filter}

-- what comes next after a beginning
pub next-in : (xs r : List ℕ) (a : ℕ) → comes_next (xs ++ r) (length xs) a ≡ true → (r' : List ℕ) × (r ≡ a ∷ r')
next-in xs [] a h =
    let b = and_parts (nat_lt (length xs) (length (xs ++ []))) (slice_index (xs ++ []) (length xs) == a) h in
    absurd (let l = ltb-true (length xs) (length (xs ++ [])) b.0 in let k = length-append xs [] in omega arith)
next-in xs (c ∷ r) a h =
    let b = and_parts (nat_lt (length xs) (length (xs ++ c ∷ r))) (slice_index (xs ++ c ∷ r) (length xs) == a) h in
    let e : c ≡ a = sym (get_or-append_seam xs c r 0) ∙ eqb-true (slice_index (xs ++ c ∷ r) (length xs)) a b.1 in
    (r, ap (λ x. x ∷ r) e)

pub next-from : (xs r : List ℕ) (a : ℕ) → comes_next (xs ++ a ∷ r) (length xs) a ≡ true
next-from xs r a =
    and_from (nat_lt (length xs) (length (xs ++ a ∷ r))) (slice_index (xs ++ a ∷ r) (length xs) == a)
    (lt-ltb (length xs) (length (xs ++ a ∷ r)) (let k = length-append xs (a ∷ r) in omega arith))
    (eq-eqb (slice_index (xs ++ a ∷ r) (length xs)) a (get_or-append_seam xs a r 0))

module _ (loc : ℕ → List ℕ) (letters : ℕ) (scripts : ℕ → List ℕ) where
  seen-append : (p : ℕ) (u v : List ℕ) → projection loc p (u ++ v) ≡ projection loc p u ++ projection loc p v
  seen-append p u v = filter-append (λ a. has (loc a) p) u v

  -- an enabled letter can be appended
  pub fits-more : (w : List ℕ) (a : ℕ) → a < letters → Fits loc letters scripts w → is_enabled loc scripts w a ≡ true → Fits loc letters scripts (w ++ a ∷ [])
  fits-more w a l f h =
      record {
        word = All-push (λ b. b < letters) w a f.word l;
        prefix = λ p.
            let k = f.prefix p in
            elim (cases_Bool (has (loc a) p)) [
              | inl t ↦
                  let c : comes_next (projection loc p w ++ k.0) (length (projection loc p w)) a ≡ true =
                  subst (λ s. comes_next s (length (projection loc p w)) a ≡ true) (sym k.1)
                  (all-at (λ q. comes_next (scripts q) (length (projection loc q w)) a) (loc a) p h t) in
                  let n = next-in (projection loc p w) k.0 a c in (
                    n.0,
                    ap (λ x. x ++ n.0) (seen-append p w (a ∷ []) ∙ ap (λ x. projection loc p w ++ x) (seen-take loc p a [] t))
                        ∙ append_assoc (projection loc p w) (a ∷ []) n.0 ∙ ap (λ x. projection loc p w ++ x) (sym n.1) ∙ k.1,
                  )
              | inr s ↦ (
                k.0,
                ap (λ x. x ++ k.0) (seen-append p w (a ∷ []) ∙ ap (λ x. projection loc p w ++ x) (seen-skip loc p a [] s)
                    ∙ append-nil (projection loc p w)) ∙ k.1,
              )
            ];
      }

  -- w has no more of any process than v
  pub record Below (w v : List ℕ) : Type 0 where
    pub below : (p : ℕ) → length (projection loc p w) ≤ length (projection loc p v)

  -- one more letter of a word that fits stays below a word that fits maximally
  step-below : (x y v : List ℕ) (a : ℕ) → a < letters → Fits loc letters scripts (x ++ a ∷ y) → FitsMaximally loc letters scripts v → Below x v →
      Below (x ++ a ∷ []) v
  step-below x y v a la f m b =
      record {
        below = λ p.
            elim (cases_Bool (has (loc a) p)) [
              | inr s ↦
                  let e = ap length (seen-append p x (a ∷ [])) ∙ length-append (projection loc p x) (projection loc p (a ∷ [])) in
                  let z = ap length (seen-skip loc p a [] s) in
                  let o = b.below p in omega arith
              | inl t ↦
                  let e = ap length (seen-append p x (a ∷ [])) ∙ length-append (projection loc p x) (projection loc p (a ∷ [])) in
                  let z = ap length (seen-take loc p a [] t) in
                  let o = b.below p in
                  elim (cases_lt (length (projection loc p x)) (length (projection loc p v))) [
                    | inl lt ↦ omega arith
                    | inr ge ↦ absurd (
                        let w = all-fails (λ q. comes_next (scripts q) (length (projection loc q v)) a) (loc a) (m.stuck a la) in
                        let q = w.0 in
                        let kp = parts p t in
                        let kq = parts q w.1 in
                        let mp = m.fits.prefix p in
                        let mq = m.fits.prefix q in
                        let oq = b.below q in
                        let same = same_front (projection loc p x) (a ∷ kp.0) (projection loc p v) mp.0 (kp.1 ∙ sym mp.1) (omega arith) in
                        let cp = ap (count a) same in
                        let c1 = count-filter (λ c. has (loc c) p) a x t in
                        let c2 = count-filter (λ c. has (loc c) p) a v t in
                        let c3 = count-filter (λ c. has (loc c) q) a x w.1 in
                        let c4 = count-filter (λ c. has (loc c) q) a v w.1 in
                        elim (cases_lt (length (projection loc q x)) (length (projection loc q v))) [
                          | inl lq ↦ let g = longer_front a (projection loc q x) kq.0 (projection loc q v) mq.0 (kq.1 ∙ sym mq.1) lq in omega arith
                          | inr gq ↦
                              let le : length (projection loc q x) ≡ length (projection loc q v) = omega arith in
                              let n : comes_next (scripts q) (length (projection loc q v)) a ≡ true =
                              subst (λ i. comes_next (scripts q) i a ≡ true) le
                              (subst (λ s. comes_next s (length (projection loc q x)) a ≡ true) kq.1 (next-from (projection loc q x) kq.0 a)) in
                              let off = w.2 in cc
                        ])
                  ]
            ];
      }
    where
      parts : (p : ℕ) → has (loc a) p ≡ true → (r : List ℕ) × (projection loc p x ++ a ∷ r ≡ scripts p)
      parts p t =
          let k = f.prefix p in (
            projection loc p y ++ k.0,
            sym (append_assoc (projection loc p x) (a ∷ projection loc p y) k.0)
                ∙ ap (λ z. z ++ k.0) (ap (λ z. projection loc p x ++ z) (sym (seen-take loc p a y t)) ∙ sym (seen-append p x (a ∷ y))) ∙ k.1,
          )

  all-below : (x y v : List ℕ) → Fits loc letters scripts (x ++ y) → FitsMaximally loc letters scripts v → Below x v → Below (x ++ y) v
  all-below x [] v f m b = rw append-nil b
  all-below x (a ∷ y) v f m b =
      let e : (x ++ a ∷ []) ++ y ≡ x ++ a ∷ y = append_assoc x (a ∷ []) y in
      let la = All-head (λ c. c < letters) a y (all-right (λ c. c < letters) x (a ∷ y) f.word) in
      subst (λ z. Below z v) e (all-below (x ++ a ∷ []) y v (subst (λ z. Fits loc letters scripts z) (sym e) f) m (step-below x y v a la f m b))

  pub fits-below : (u v : List ℕ) → Fits loc letters scripts u → FitsMaximally loc letters scripts v → Below u v
  fits-below u v f m = all-below [] u v f m (record { below = λ p. omega arith })

  -- two words that fit maximally are equivalent
  pub maximal-equivalent : (u v : List ℕ) → FitsMaximally loc letters scripts u → FitsMaximally loc letters scripts v → AreEquivalent loc u v
  maximal-equivalent u v mu mv p =
      let a = (fits-below u v mu.fits mv).below p in
      let b = (fits-below v u mv.fits mu).below p in
      let ku = mu.fits.prefix p in
      let kv = mv.fits.prefix p in
      same_front (projection loc p u) ku.0 (projection loc p v) kv.0 (ku.1 ∙ sym kv.1) (omega arith)

  -- how long a word is that fits
  total-le : (f g : ℕ → List ℕ) (n : ℕ) → ((p : ℕ) → length (f p) ≤ length (g p)) → total f n ≤ total g n
  total-le f g zero h = omega arith
  total-le f g (suc n) h = let a = total-le f g n h in let b = h n in omega arith

  total-lt : (f g : ℕ → List ℕ) (n q : ℕ) → ((p : ℕ) → length (f p) ≤ length (g p)) → q < n → length (f q) < length (g q) → total f n < total g n
  total-lt f g zero q h l s = absurd (omega arith)
  total-lt f g (suc n) q h l s =
      elim (cases_eq q n) [
        | inl e ↦ let k : length (f n) < length (g n) = subst (λ i. length (f i) < length (g i)) e s in let a = total-le f g n h in omega arith
        | inr ne ↦ let a = total-lt f g n q h (omega arith) s in let b = h n in omega arith
      ]

  length-le-total : (processes : ℕ) (w : List ℕ) → IsAlphabet loc letters processes → IsWord letters w → length w ≤ total (λ p. projection loc p w) processes
  length-le-total processes [] al h = omega arith
  length-le-total processes (a ∷ w) al h =
      let la = All-head (λ c. c < letters) a w h in
      let ih = length-le-total processes w al (All-tail (λ c. c < letters) a w h) in
      let q = al.some a la in
      let k = total-lt (λ p. projection loc p w) (λ p. projection loc p (a ∷ w)) processes q.0
      (λ p. elim (cases_Bool (has (loc a) p)) [
        | inl t ↦ let z = ap length (seen-take loc p a w t) in omega arith
        | inr s ↦ let z = ap length (seen-skip loc p a w s) in omega arith
      ])
      (al.below a q.0 la q.1) (let z = ap length (seen-take loc q.0 a w q.1) in omega arith) in
      omega arith

  pub fits-length : (processes : ℕ) (w : List ℕ) → IsAlphabet loc letters processes → Fits loc letters scripts w → length w ≤ total scripts processes
  fits-length processes w al f =
      let a = length-le-total processes w al f.word in
      let b = total-le (λ p. projection loc p w) scripts processes
      (λ p. let k = f.prefix p in let e = ap length (sym k.1) ∙ length-append (projection loc p w) k.0 in omega arith) in
      omega arith

  pub weave-maximal : (processes : ℕ) (more : ℕ) (w : List ℕ) → IsAlphabet loc letters processes → Fits loc letters scripts w →
      total scripts processes ≤ length w + more →
      FitsMaximally loc letters scripts (weave_from loc letters scripts more w)
  weave-maximal processes zero w al f t =
      record {
        fits = f;
        stuck = λ a la. elim (cases_Bool (is_enabled loc scripts w a)) [
          | inr off ↦ off
          | inl on ↦ absurd (let k = fits-length processes (w ++ a ∷ []) al (fits-more w a la f on) in let e = length-append w (a ∷ []) in omega arith)
        ];
      }
  weave-maximal processes (suc more) w al f t =
      let a = least (is_enabled loc scripts w) letters in
      let next = weave_from loc letters scripts more (w ++ a ∷ []) in
      elim (cases_Bool (nat_lt a letters)) [
        | inl e ↦
            let la = ltb-true a letters e in
            let g = fits-more w a la f (least-true (is_enabled loc scripts w) letters la) in
            let ih = weave-maximal processes more (w ++ a ∷ []) al g (let k = length-append w (a ∷ []) in omega arith) in
            subst (λ b. FitsMaximally loc letters scripts (elim b [ true ↦ next | false ↦ w ])) (sym e) ih
        | inr e ↦
            let ge = ltb-false a letters e in
            let m : FitsMaximally loc letters scripts w = record { fits = f; stuck = λ k l. least-below (is_enabled loc scripts w) letters k (omega arith) } in
            subst (λ b. FitsMaximally loc letters scripts (elim b [ true ↦ next | false ↦ w ])) (sym e) m
      ]

pub empty-fits : (loc : ℕ → List ℕ) (letters : ℕ) (scripts : ℕ → List ℕ) → Fits loc letters scripts []
empty-fits loc letters scripts = record { word = All-nil (λ a. a < letters); prefix = λ p. (scripts p, refl) }

pub weave_is_maximal : WeaveIsMaximal
weave_is_maximal loc letters processes scripts al =
    weave-maximal loc letters scripts processes (total scripts processes) [] al (empty-fits loc letters scripts) (omega arith)

-- each word that fits maximally is equivalent to the weave
pub maximal-one : (loc : ℕ → List ℕ) (letters processes : ℕ) (scripts : ℕ → List ℕ) (w : List ℕ) → IsAlphabet loc letters processes →
    FitsMaximally loc letters scripts w →
    AreEquivalent loc w (weave loc letters processes scripts)
maximal-one loc letters processes scripts w al m =
    maximal-equivalent loc letters scripts w (weave loc letters processes scripts) m (weave_is_maximal loc letters processes scripts al)

-- the same letters are enabled after equivalent words
pub enabled-same : (loc scripts : ℕ → List ℕ) (u v : List ℕ) (a : ℕ) → AreEquivalent loc u v → is_enabled loc scripts u a ≡ is_enabled loc scripts v a
enabled-same loc scripts u v a e =
    all-agree (λ p. comes_next (scripts p) (length (projection loc p u)) a) (λ p. comes_next (scripts p) (length (projection loc p v)) a) (loc a)
    (λ p h. ap (λ w. comes_next (scripts p) (length w) a) (e p))

-- a word that is equivalent to one that fits maximally does so too
pub equivalent-maximal : (loc : ℕ → List ℕ) (letters : ℕ) (scripts : ℕ → List ℕ) (u v : List ℕ) → IsWord letters u → AreEquivalent loc u v →
    FitsMaximally loc letters scripts v →
    FitsMaximally loc letters scripts u
equivalent-maximal loc letters scripts u v hu e m =
    record {
      fits = record { word = hu; prefix = λ p. let k = m.fits.prefix p in (k.0, ap (λ x. x ++ k.0) (e p) ∙ k.1) };
      stuck = λ a l. enabled-same loc scripts u v a e ∙ m.stuck a l;
    }

pub maximal_words_are_one_trace : MaximalWordsAreOneTrace
maximal_words_are_one_trace loc letters processes scripts w al = (
  λ m. (m.fits.word, maximal-one loc letters processes scripts w al m),
  λ h. equivalent-maximal loc letters scripts w (weave loc letters processes scripts) h.0 h.1 (weave_is_maximal loc letters processes scripts al),
)

-- after a word that weaves the scripts no letter is enabled
pub weaves-maximal : (loc : ℕ → List ℕ) (letters processes : ℕ) (scripts : ℕ → List ℕ) (w : List ℕ) → IsAlphabet loc letters processes →
    Weaves loc letters scripts w → FitsMaximally loc letters scripts w
weaves-maximal loc letters processes scripts w al k =
    record {
      fits = record { word = k.word; prefix = λ p. ([], append-nil (projection loc p w) ∙ k.whole p) };
      stuck = λ a la. elim (cases_Bool (is_enabled loc scripts w a)) [
        | inr off ↦ off
        | inl on ↦ absurd (
            let q = al.some a la in
            let c : comes_next (projection loc q.0 w) (length (projection loc q.0 w)) a ≡ true =
            subst (λ s. comes_next s (length (projection loc q.0 w)) a ≡ true) (sym (k.whole q.0))
            (all-at (λ p. comes_next (scripts p) (length (projection loc p w)) a) (loc a) q.0 on q.1) in
            let l = ltb-true (length (projection loc q.0 w)) (length (projection loc q.0 w))
            (and_parts (nat_lt (length (projection loc q.0 w)) (length (projection loc q.0 w)))
            (slice_index (projection loc q.0 w) (length (projection loc q.0 w)) == a) c).0 in
            omega arith)
      ];
    }

pub weave_decides : WeaveDecides
weave_decides loc letters processes scripts w al k =
    let m = weave_is_maximal loc letters processes scripts al in
    let e = maximal-one loc letters processes scripts w al (weaves-maximal loc letters processes scripts w al k) in
    record { word = m.fits.word; whole = λ p. sym (e p) ∙ k.whole p }

pub maximal_words_weave : MaximalWordsWeave
maximal_words_weave loc letters processes scripts w al k m =
    record { word = m.fits.word; whole = λ p. maximal-one loc letters processes scripts w al m p ∙ k.whole p }

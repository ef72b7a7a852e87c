-- Letters without a participant: where they are given process 0, what is accepted without them is accepted.
use Rattle.std.proofs.Common.{◌≡◌, ℕ, suc, ◌<◌, Bool, true, false, inl, inr, List, [], ◌∷◌, map, if◌then◌else◌, refl, sym, ap, subst, ◌∙◌, arith}
use Rattle.std.specs.List.{range_with_len}
use Rattle.std.proofs.lemmas.Bool.{cases_Bool, not-true, not_from_false}
use Rattle.std.proofs.lemmas.List.Elements.{All-nil, All-head, All-tail}
use Rattle.za_alpha.specs.Words.{has, meets, independent, IsAlphabet, IsWord, AreEquivalent}
use Rattle.za_alpha.proofs.Swaps.{meets-elim, meets-intro, seen-skip}
use Rattle.za_order.proofs.Sets.{has-cases}
use Rattle.za_dfa.specs.Automata.{Automaton, walk, HasDiamonds}
use Rattle.za_theorem.specs.Asynchronous.{Asynchronous, moved}
use Rattle.za_theorem.specs.Languages.{AreProcesses, IsClosedLanguage, AcceptsLocally, IsDistributable}
use Rattle.za_theorem.proofs.Seen.{is_some, seen, seen-on, seen-off, seen-equivalent, seen-word, or_zero, or_zero-has, or_zero-same, is-some}
use Rattle.za_theorem.proofs.Moves.{after-seen}

abbrev pub filled : (ℕ → List ℕ) → ℕ → List ℕ
filled loc a = or_zero (loc a)

-- process 0 is a process, if there is one
zero-below : (xs : List ℕ) (p n : ℕ) → ((p : ℕ) → has xs p ≡ true → p < suc n) → has (or_zero xs) p ≡ true → p < suc n
zero-below [] p n h k = elim (has-cases 0 p [] k) [ inl e ↦ omega arith | inr r ↦ absurd (let c : false ≡ true = r in cc) ]
zero-below (x ∷ xs) p n h k = h p k

-- more participants make fewer letters independent
more-meet : (xs ys : List ℕ) → meets xs ys ≡ true → meets (or_zero xs) (or_zero ys) ≡ true
more-meet xs ys h =
    let r = meets-elim xs ys h in
    let keep = λ (zs : List ℕ) (k : has zs r.0 ≡ true). subst (λ v. has v r.0 ≡ true) (sym (or_zero-same zs (is-some zs r.0 k))) k in
    meets-intro (or_zero xs) (or_zero ys) r.0 (keep xs r.1) (keep ys r.2)

module _ (loc : ℕ → List ℕ) where
  pub filled-alphabet : (letters n : ℕ) → AreProcesses loc letters (suc n) → IsAlphabet (filled loc) letters (suc n)
  filled-alphabet letters n inside = record {
    some = λ a l. or_zero-has (loc a);
    below = λ a p l h. zero-below (loc a) p n (λ q k. inside a q l k) h;
  }

  apart-before : (a b : ℕ) → independent (filled loc) a b ≡ true → independent loc a b ≡ true
  apart-before a b h = elim (cases_Bool (meets (loc a) (loc b))) [
    | inl t ↦ let m = more-meet (loc a) (loc b) t in let n = not-true (meets (filled loc a) (filled loc b)) h in cc
    | inr f ↦ not_from_false (meets (loc a) (loc b)) f
  ]

  pub filled-diamonds : (d : Automaton) → HasDiamonds loc d → HasDiamonds (filled loc) d
  filled-diamonds d h q a b l la lb i = h q a b l la lb (apart-before a b i)

  module _ (letters n : ℕ) (z : Asynchronous) (language : List ℕ → Bool) (closed : IsClosedLanguage loc letters language)
      (accepts : AcceptsLocally (filled loc) letters n z language) where
    -- letters with a participant have the same moves
    moved-filled : (g : ℕ → ℕ) (a : ℕ) → is_some (loc a) ≡ true → moved loc z g a ≡ moved (filled loc) z g a
    moved-filled g a t =
        let go : List ℕ → ℕ → ℕ = λ xs p. if has xs p then z.next a (map g xs) p else g p in
        ap go (sym (or_zero-same (loc a) t))

    run-filled : (g : ℕ → ℕ) (w : List ℕ) → walk (moved loc z) g (seen loc w) ≡ walk (moved (filled loc) z) g (seen loc w)
    run-filled g [] = refl
    run-filled g (a ∷ w) = elim (cases_Bool (is_some (loc a))) [
      | inl t ↦
          ap (walk (moved loc z) g) (seen-on loc a w t)
          ∙ run-filled (moved loc z g a) w
          ∙ ap (λ h. walk (moved (filled loc) z) h (seen loc w)) (moved-filled g a t)
          ∙ ap (walk (moved (filled loc) z) g) (sym (seen-on loc a w t))
      | inr f ↦ ap (walk (moved loc z) g) (seen-off loc a w f) ∙ run-filled g w ∙ ap (walk (moved (filled loc) z) g) (sym (seen-off loc a w f))
    ]

    steps-filled : (a p : ℕ) (g : ℕ → ℕ) → a < letters → has (loc a) p ≡ true → ((q : ℕ) → has (loc a) q ≡ true → g q < z.states q) →
        z.next a (map g (loc a)) p < z.states p
    steps-filled a p g l h k =
        let same = or_zero-same (loc a) (is-some (loc a) p h) in
        subst (λ xs. z.next a (map g xs) p < z.states p) same
        (accepts.whole.steps a p g l (subst (λ xs. has xs p ≡ true) (sym same) h) (λ q m. k q (subst (λ xs. has xs q ≡ true) same m)))

    pub filled-accepts : AcceptsLocally loc letters n z language
    filled-accepts = record {
      whole = record { starts = accepts.whole.starts; steps = steps-filled };
      words = λ w word.
          ap (λ g. z.accepts (map g (range_with_len 0 n))) (after-seen loc z w ∙ run-filled z.start w)
          ∙ accepts.words (seen loc w) (seen-word loc letters w word)
          ∙ sym (closed w (seen loc w) word (seen-word loc letters w word) (seen-equivalent loc w));
    }

  -- without a process all words are equivalent
  nothing-seen : (letters : ℕ) (w : List ℕ) → AreProcesses loc letters 0 → IsWord letters w → AreEquivalent loc w []
  nothing-seen letters [] inside word p = refl
  nothing-seen letters (a ∷ w) inside word p = elim (cases_Bool (has (loc a) p)) [
    | inl t ↦ absurd (let l = inside a p (All-head (λ b. b < letters) a w word) t in omega arith)
    | inr f ↦ seen-skip loc p a w f ∙ nothing-seen letters w inside (All-tail (λ b. b < letters) a w word) p
  ]

  pub nobody-distributable : (letters : ℕ) (language : List ℕ → Bool) → AreProcesses loc letters 0 → IsClosedLanguage loc letters language →
      IsDistributable loc letters 0 language
  nobody-distributable letters language inside closed = (
    record { states = λ p. 1; start = λ p. 0; next = λ a xs p. 0; accepts = λ xs. language [] },
    record {
      whole = record { starts = λ p l. omega arith; steps = λ a p g l h k. omega arith };
      words = λ w word. sym (closed w [] word (All-nil (λ b. b < letters)) (nothing-seen letters w inside word));
    },
  )

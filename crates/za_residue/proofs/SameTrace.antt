-- Equivalent words have equivalent residue words.
use Rattle.std.proofs.Common.{◌≡◌, ℕ, zero, suc, ◌+◌, ◌<◌, ◌≤◌, Bool, true, false, not, ◌&&◌, inl, inr, List, [], ◌∷◌, ◌++◌, length, slice_index, refl, sym, ap}
use Rattle.std.proofs.Common.{subst, ◌∙◌, arith}
use Rattle.std.specs.List.{range_with_len, list_any}
use Rattle.std.specs.Option.{option_map_or}
use Rattle.std.proofs.Math.Path.{fun_ext}
use Rattle.std.proofs.Math.Seq.{take-length}
use Rattle.std.proofs.lemmas.Bool.{cases_Bool, cases_order}
use Rattle.za_alpha.specs.Words.{has, projection, AreEquivalent, IsWord}
use Rattle.za_order.specs.Views.{participants, in_view, in_past}
use Rattle.za_order.specs.Entries.{primary}
use Rattle.za_order.specs.Words.{subword}
use Rattle.za_order.specs.Locals.{is_covered, in_residue, residue_word}
use Rattle.za_order.proofs.Sets.{same-test}
use Rattle.za_order.proofs.Views.{past-sound, past-complete}
use Rattle.za_order.proofs.Entries.{primary-sound}
use Rattle.za_order.proofs.Participants.{word-over}
use Rattle.za_order.proofs.Subwords.{projection-takes, projection-skips, projection-others}
use Rattle.za_order.proofs.Ranks.{rank, rank-next, rank-skip, rank-less, rank-read}
use Rattle.za_order.proofs.Matches.{IsPair, to-match, flip, pair-rank, pair-found, pair-chain}
use Rattle.za_order.proofs.Equivalent.{flip-equivalent, views_agree, same-primary}
use Rattle.za_dfa.proofs.Diamonds.{diamonds_keep_the_state}
use Rattle.za_residue.specs.Laws.{ResidueWordsAgree, ResiduesAgree}
use Rattle.za_residue.proofs.Covered.{passes-some, some-passes}
use Rattle.za_residue.proofs.Subwords.{subword-word}

-- sets that agree at events of p of one rank leave projections on p alike
module _ (loc : ℕ → List ℕ) (p : ℕ) (u v : List ℕ) (same : projection loc p u ≡ projection loc p v) (s t : ℕ → Bool)
    (agree : (i j : ℕ) → i < length u → j < length v → has (participants loc u i) p ≡ true → has (participants loc v j) p ≡ true →
    rank (λ a. has (loc a) p) u i ≡ rank (λ a. has (loc a) p) v j → s i ≡ t j) where
  abbrev own : ℕ → Bool
  own a = has (loc a) p

  -- both take part in an event, or neither
  picked-both : (n m : ℕ) → n < length u → m < length v → has (participants loc u n) p ≡ true → has (participants loc v m) p ≡ true → rank own u n
      ≡ rank own v m →
      projection loc p (subword u s n) ≡ projection loc p (subword v t m) → projection loc p (subword u s (suc n)) ≡ projection loc p (subword v t (suc m))
  picked-both n m ln lm hn hm e rest =
      let test = agree n m ln lm hn hm e in
      let letter : slice_index u n ≡ slice_index v m =
      sym (rank-read own u n ln hn).1 ∙ ap (λ x. slice_index x (rank own u n)) same ∙ ap (λ r. slice_index (projection loc p v) r) e
      ∙ (rank-read own v m lm hm).1 in
      elim (cases_Bool (s n)) [
        | inl y ↦
            projection-takes loc u p s n y hn ∙ ap (λ x. x ++ slice_index u n ∷ []) rest ∙ ap (λ a. projection loc p (subword v t m) ++ a ∷ []) letter
            ∙ sym (projection-takes loc v p t m (sym test ∙ y) hm)
        | inr f ↦ projection-skips loc u p s n f ∙ rest ∙ sym (projection-skips loc v p t m (sym test ∙ f))
      ]

  -- below positions of one rank
  picked : (b n m : ℕ) → n + m ≤ b → n ≤ length u → m ≤ length v → rank own u n ≡ rank own v m → projection loc p (subword u s n)
      ≡ projection loc p (subword v t m)
  picked b zero zero h ln lm e = refl
  picked zero zero (suc m) h ln lm e = absurd (omega arith)
  picked zero (suc n) m h ln lm e = absurd (omega arith)
  picked (suc b) zero (suc m) h ln lm e =
      elim (cases_Bool (has (participants loc v m) p)) [
        | inl y ↦ absurd (let r = rank-next own v m (omega arith) y in omega arith)
        | inr f ↦ picked b zero m (omega arith) ln (omega arith) (e ∙ rank-skip own v m (omega arith) f) ∙ sym (projection-others loc v p t m f)
      ]
  picked (suc b) (suc n) zero h ln lm e =
      elim (cases_Bool (has (participants loc u n) p)) [
        | inl y ↦ absurd (let r = rank-next own u n (omega arith) y in omega arith)
        | inr f ↦ projection-others loc u p s n f ∙ picked b n zero (omega arith) (omega arith) lm (sym (rank-skip own u n (omega arith) f) ∙ e)
      ]
  picked (suc b) (suc n) (suc m) h ln lm e =
      elim (cases_Bool (has (participants loc u n) p)) [
        | inr f ↦ projection-others loc u p s n f ∙ picked b n (suc m) (omega arith) (omega arith) lm (sym (rank-skip own u n (omega arith) f) ∙ e)
        | inl y ↦ elim (cases_Bool (has (participants loc v m) p)) [
          | inr f ↦ picked b (suc n) m (omega arith) ln (omega arith) (e ∙ rank-skip own v m (omega arith) f) ∙ sym (projection-others loc v p t m f)
          | inl z ↦
              let ru = rank-next own u n (omega arith) y in
              let rv = rank-next own v m (omega arith) z in
              let one : rank own u n ≡ rank own v m = omega arith in
              picked-both n m (omega arith) (omega arith) y z one (picked b n m (omega arith) (omega arith) (omega arith) one)
        ]
      ]

module _ (loc : ℕ → List ℕ) where
  -- events of one rank among those of p match
  rank-pair : (u v : List ℕ) (p i j : ℕ) → AreEquivalent loc u v → i < length u → j < length v → has (participants loc u i) p ≡ true →
      has (participants loc v j) p ≡ true →
      rank (λ a. has (loc a) p) u i ≡ rank (λ a. has (loc a) p) v j → IsPair u v i j
  rank-pair u v p i j e li lj hi hj r =
      let own : ℕ → Bool = λ a. has (loc a) p in
      let f = pair-found loc u v i p e li hi in
      let k : ℕ = f.0 in
      let lk = f.1.in_v in
      let hk : has (participants loc v k) p ≡ true = subst (λ a. has (loc a) p ≡ true) f.1.letter hi in
      let one : rank own v k ≡ rank own v j = sym (pair-rank loc u v i k p e f.1 hi) ∙ r in
      elim (cases_order k j) [
        | inl same ↦ subst (λ x. IsPair u v i x) same f.1
        | inr o ↦ elim o [
          | inl lt ↦ absurd (let c = rank-less own v k j lt (omega arith) hk in omega arith)
          | inr gt ↦ absurd (let c = rank-less own v j k gt (omega arith) hj in omega arith)
        ]
      ]

  -- matches are together in the past of a primary entry
  past-forth : (u v : List ℕ) (p y i j : ℕ) → AreEquivalent loc u v → IsPair u v i j →
      option_map_or (λ e. in_past (participants loc u) e i) (primary (participants loc u) (length u) p y) false ≡ true →
      option_map_or (λ e. in_past (participants loc v) e j) (primary (participants loc v) (length v) p y) false ≡ true
  past-forth u v p y i j e m h =
      let g = passes-some (λ e. in_past (participants loc u) e i) (primary (participants loc u) (length u) p y) h in
      let f = same-primary loc u v p y g.0 e g.1 in
      some-passes (λ e. in_past (participants loc v) e j) (primary (participants loc v) (length v) p y) f.0 f.2
      (past-complete (participants loc v) f.0 j y (primary-sound (participants loc v) (length v) p y f.0 f.2).takes
      (pair-chain loc u v j f.0 e (past-sound (participants loc u) g.0 i g.2) m f.1))

  -- and in residues
  residue-pair : (processes : ℕ) (u v : List ℕ) (p : ℕ) (set : ℕ → Bool) (i j : ℕ) → AreEquivalent loc u v → IsPair u v i j →
      in_residue (participants loc u) processes (length u) p set i ≡ in_residue (participants loc v) processes (length v) p set j
  residue-pair processes u v p set i j e m =
      let known = λ (w : List ℕ) (k y : ℕ). option_map_or (λ e. in_past (participants loc w) e k) (primary (participants loc w) (length w) p y) false in
      let covered : is_covered (participants loc u) processes (length u) p set i ≡ is_covered (participants loc v) processes (length v) p set j =
      ap (λ f. list_any f (range_with_len 0 processes)) (fun_ext (λ y. ap (λ b. set y && b)
      (same-test (known u i y) (known v j y) (past-forth u v p y i j e m) (past-forth v u p y j i (flip-equivalent loc u v e) (flip u v i j m))))) in
      ap (λ b. b && not (is_covered (participants loc u) processes (length u) p set i)) (views_agree loc u v (p ∷ []) i j e (to-match u v i j m))
      ∙ ap (λ b. in_view (participants loc v) (length v) (p ∷ []) j && not b) covered

pub residue_words_agree : ResidueWordsAgree
residue_words_agree loc processes u v p set e k =
    let own : ℕ → Bool = λ a. has (loc a) k in
    picked loc k u v (e k) (in_residue (participants loc u) processes (length u) p set) (in_residue (participants loc v) processes (length v) p set)
    (λ i j li lj hi hj r. residue-pair loc processes u v p set i j e (rank-pair loc u v k i j e li lj hi hj r))
    (length u + length v) (length u) (length v) (omega arith) (omega arith) (omega arith)
    (ap (λ x. length (projection loc k x)) (take-length u) ∙ ap length (e k) ∙ sym (ap (λ x. length (projection loc k x)) (take-length v)))

pub residues_agree : ResiduesAgree
residues_agree loc processes d u v p set q alphabet total diamonds wu wv small e =
    let word = λ (w : List ℕ) (h : IsWord d.letters w).
    subword-word loc d.letters processes w (word-over loc d.letters processes w alphabet h) (in_residue (participants loc w) processes (length w) p set)
    (length w) (omega arith) in
    diamonds_keep_the_state loc processes d q (residue_word loc processes u (length u) p set) (residue_word loc processes v (length v) p set)
    alphabet total diamonds small
    (word u wu) (word v wv) (residue_words_agree loc processes u v p set e)

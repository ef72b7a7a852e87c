-- What an event does to the residues.
use Rattle.std.proofs.Common.{◌≡◌, ℕ, suc, ◌<◌, Bool, true, false, not, ◌&&◌, ◌||◌, ◌==◌, inl, inr, List, [], ◌∷◌, ◌++◌, length, slice_index, Option, Some}
use Rattle.std.proofs.Common.{None, refl, sym, ap, ◌∙◌, arith}
use Rattle.std.specs.List.{range_with_len, list_any, list_all}
use Rattle.std.specs.Option.{option_map_or}
use Rattle.std.proofs.Math.Path.{fun_ext}
use Rattle.std.proofs.lemmas.Bool.{cases_Bool, and_from, and_left, and_right, and_parts, cond-false, not_from_true, not_from_false}
use Rattle.za_alpha.specs.Words.{has, meets, IsAlphabet, IsWord}
use Rattle.za_alpha.specs.Search.{least}
use Rattle.za_alpha.proofs.Swaps.{meets-elim}
use Rattle.za_order.specs.Views.{participants, in_view, in_past}
use Rattle.za_order.specs.Entries.{primary}
use Rattle.za_order.specs.Words.{subword}
use Rattle.za_order.specs.Locals.{best, is_covered, in_residue, residue_word}
use Rattle.za_order.proofs.Sets.{same-test, single-has, any-here, any-where}
use Rattle.za_order.proofs.Chains.{chain-le}
use Rattle.za_order.proofs.Views.{view-below, view-own, past-sound}
use Rattle.za_order.proofs.Entries.{primary-sound, primary-below}
use Rattle.za_order.proofs.Participants.{IsOver, word-over}
use Rattle.za_order.proofs.Steps.{view-joins, view-came, primary_of_participant, primary_kept}
use Rattle.za_order.proofs.NextEntries.{primary-newest, past-own}
use Rattle.za_order.proofs.NextLetter.{length-next, word-next, agrees, seam, at-seam}
use Rattle.za_order.proofs.Prefixes.{view-same, primary-same, past-same}
use Rattle.za_dfa.specs.Automata.{walk}
use Rattle.za_dfa.proofs.Diamonds.{walk-append}
use Rattle.za_residue.specs.Laws.{ParticipantsCompose, ParticipantsReset, OthersKeepResidues}
use Rattle.za_residue.proofs.SharedPasts.{view-one, view-of}
use Rattle.za_residue.proofs.Covered.{is_beyond, passes-some, covered-to, best-knows}
use Rattle.za_residue.proofs.Subwords.{subword-takes, subword-skips, subword-same, subword-none}
use Rattle.za_residue.proofs.JoinedViews.{known_within, compose-all}

-- after the event n its participants know of what happened before what one of them knew
joined-view : (who : ℕ → List ℕ) (n p i : ℕ) → has (who n) p ≡ true → i < n → in_view who (suc n) (p ∷ []) i ≡ in_view who n (who n) i
joined-view who n p i a l =
    same-test (in_view who (suc n) (p ∷ []) i) (in_view who n (who n) i)
    (λ v. elim (view-came who n p i a v) [ inl e ↦ absurd (omega arith) | inr s ↦ view-one who n (who n) s.0 i s.1 s.2 ])
    (λ v. let y = view-of who n (who n) i v in view-joins who n y.0 p i y.1 a y.2)

-- the others know what they knew
kept-view : (who : ℕ → List ℕ) (n p i : ℕ) → has (who n) p ≡ false → in_view who (suc n) (p ∷ []) i ≡ in_view who n (p ∷ []) i
kept-view who n p i a =
    cond-false (meets (who n) (p ∷ [])) ((i == n) || in_view who n ((p ∷ []) ++ who n) i) (in_view who n (p ∷ []) i)
    (elim (cases_Bool (meets (who n) (p ∷ []))) [
      | inr f ↦ f
      | inl t ↦ let m = meets-elim (who n) (p ∷ []) t in let k = single-has p m.0 (who n) m.2 m.1 in let z : true ≡ false = sym k ∙ a in cc
    ])

-- a test of an event where it is known to be one
passes-same : (s t : ℕ → Bool) (o : Option ℕ) → ((e : ℕ) → o ≡ Some e → s e ≡ t e) → option_map_or s o false ≡ option_map_or t o false
passes-same s t None h = refl
passes-same s t (Some e) h = h e refl

-- residues look at the first n events alone
pub residue-same : (who who' : ℕ → List ℕ) (processes n p : ℕ) (set : ℕ → Bool) (i : ℕ) → ((j : ℕ) → j < n → who j ≡ who' j) →
    in_residue who processes n p set i ≡ in_residue who' processes n p set i
residue-same who who' processes n p set i h =
    let covered : is_covered who processes n p set i ≡ is_covered who' processes n p set i =
    ap (λ t. list_any t (range_with_len 0 processes)) (fun_ext (λ y. ap (λ x. set y && x)
    (passes-same (λ e. in_past who e i) (λ e. in_past who' e i) (primary who n p y)
    (λ e k. past-same who who' n e i (primary-below who n p y e (primary-sound who n p y e k)) h)
    ∙ ap (λ o. option_map_or (λ e. in_past who' e i) o false) (primary-same who who' n p y h)))) in
    ap (λ x. x && not (is_covered who processes n p set i)) (view-same who who' n (p ∷ []) i h) ∙ ap (λ x. in_view who' n (p ∷ []) i && not x) covered

-- so does who has the latest news, and what is beyond
best-same : (who who' : ℕ → List ℕ) (processes n : ℕ) (xs : List ℕ) (r : ℕ) → ((j : ℕ) → j < n → who j ≡ who' j) → best who processes n xs r
    ≡ best who' processes n xs r
best-same who who' processes n xs r h =
    ap (λ t. least t processes) (fun_ext (λ x. ap (λ t. has xs x && list_all t xs) (fun_ext (λ y.
    ap (λ f. option_map_or f (primary who n y r) true) (fun_ext (λ e. view-same who who' n (x ∷ []) e h))
    ∙ ap (λ o. option_map_or (λ e. in_view who' n (x ∷ []) e) o true) (primary-same who who' n y r h)))))

beyond-same : (who who' : ℕ → List ℕ) (processes n : ℕ) (xs : List ℕ) (set : ℕ → Bool) (i : ℕ) → ((j : ℕ) → j < n → who j ≡ who' j) →
    is_beyond who processes n xs set i ≡ is_beyond who' processes n xs set i
beyond-same who who' processes n xs set i h =
    ap (λ t. list_any t (range_with_len 0 processes)) (fun_ext (λ r. ap (λ v. set r && v)
    (passes-same (λ e. in_past who e i) (λ e. in_past who' e i) (primary who n (best who processes n xs r) r)
    (λ e k. past-same who who' n e i (primary-below who n (best who processes n xs r) r e (primary-sound who n (best who processes n xs r) r e k)) h)
    ∙ ap (λ o. option_map_or (λ e. in_past who' e i) o false)
    (primary-same who who' n (best who processes n xs r) r h ∙ ap (λ b. primary who' n b r) (best-same who who' processes n xs r h)))))

-- at the event n of a word
module _ (loc : ℕ → List ℕ) (letters processes : ℕ) (w : List ℕ) (over : IsOver loc letters processes w) (n : ℕ) (l : n < length w) (p : ℕ) where
  abbrev who : ℕ → List ℕ
  who = participants loc w

  -- a set with a participant leaves a participant nothing
  nothing-left : (set : ℕ → Bool) → has (who n) p ≡ true → list_any set (who n) ≡ true → residue_word loc processes w (suc n) p set ≡ []
  nothing-left set a h =
      let y = any-where set (who n) h in
      let entry = primary_of_participant who n p y.0 a y.1 in
      subword-none w (in_residue who processes (suc n) p set) (suc n)
      (λ i k. elim (cases_Bool (in_view who (suc n) (p ∷ []) i)) [
        | inr f ↦ and_left (in_view who (suc n) (p ∷ []) i) (not (is_covered who processes (suc n) p set i)) f
        | inl v ↦
            let c = past-sound who n i (past-own who n p i a ∙ v) in
            and_right (in_view who (suc n) (p ∷ []) i) (not (is_covered who processes (suc n) p set i))
            (not_from_true (is_covered who processes (suc n) p set i) (covered-to loc letters processes w over (suc n) (omega arith) p set i y.0 n y.2 entry c))
      ])

  -- any other set leaves what the participants knew without what is beyond, and the event
  parts-left : (set : ℕ → Bool) → has (who n) p ≡ true → list_any set (who n) ≡ false →
      residue_word loc processes w (suc n) p set ≡ subword w (λ i. in_view who n (who n) i && not (is_beyond who processes n (who n) set i))
      n ++ slice_index w n ∷ []
  parts-left set a h =
      let xs : List ℕ = who n in
      let beyond : ℕ → Bool = is_beyond who processes n xs set in
      let test : ℕ → Bool = in_residue who processes (suc n) p set in
      let range = range_with_len 0 processes in
      let covered : (i : ℕ) → is_covered who processes (suc n) p set i ≡ beyond i = λ i.
      let known = λ (o : Option ℕ). option_map_or (λ e. in_past who e i) o false in
      ap (λ f. list_any f range) (fun_ext (λ y. elim (cases_Bool (set y)) [
        | inr f ↦ and_left (set y) (known (primary who (suc n) p y)) f ∙ sym (and_left (set y) (known (primary who n (best who processes n xs y) y)) f)
        | inl k ↦ ap (λ o. set y && known o) (primary-newest who n p y (best who processes n xs y) a
            (elim (cases_Bool (has xs y)) [
              | inr f ↦ f
              | inl b ↦ let z : false ≡ true = sym h ∙ any-here set xs y b k in cc
            ])
            (best-knows loc letters processes w over n (omega arith) xs y p a (λ x t. over.below n x l t)))
      ])) in
      let here : beyond n ≡ false = elim (cases_Bool (beyond n)) [
        | inr f ↦ f
        | inl b ↦
            let known = λ (r : ℕ). option_map_or (λ e. in_past who e n) (primary who n (best who processes n xs r) r) false in
            let r = any-where (λ r. set r && known r) range b in
            let q = and_parts (set r.0) (known r.0) r.2 in
            let g = passes-some (λ e. in_past who e n) (primary who n (best who processes n xs r.0) r.0) q.1 in
            let below = primary-below who n (best who processes n xs r.0) r.0 g.0 (primary-sound who n (best who processes n xs r.0) r.0 g.0 g.1) in
            let c = chain-le who (past-sound who g.0 n g.2) in
            absurd (omega arith)
      ] in
      let takes : test n ≡ true = and_from (in_view who (suc n) (p ∷ []) n) (not (is_covered who processes (suc n) p set n))
      (view-own who (suc n) p n (omega arith) a) (not_from_false (is_covered who processes (suc n) p set n) (covered n ∙ here)) in
      subword-takes w test n takes
      ∙ ap (λ v. v ++ slice_index w n ∷ [])
      (subword-same w w test (λ i. in_view who n xs i && not (beyond i)) n (λ i k. refl)
      (λ i k. ap (λ v. v && not (is_covered who processes (suc n) p set i)) (joined-view who n p i a k) ∙ ap (λ v. in_view who n xs i && not v) (covered i)))

  -- who takes no part keeps all
  all-kept : (set : ℕ → Bool) → has (who n) p ≡ false → residue_word loc processes w (suc n) p set ≡ residue_word loc processes w n p set
  all-kept set a =
      let test : ℕ → Bool = in_residue who processes (suc n) p set in
      let same : (i : ℕ) → test i ≡ in_residue who processes n p set i = λ i.
      ap (λ v. v && not (is_covered who processes (suc n) p set i)) (kept-view who n p i a)
      ∙ ap (λ f. in_view who n (p ∷ []) i && not (list_any f (range_with_len 0 processes)))
      (fun_ext (λ y. ap (λ o. set y && option_map_or (λ e. in_past who e i) o false) (primary_kept who n p y a))) in
      let out : test n ≡ false = same n ∙ and_left (in_view who n (p ∷ []) n) (not (is_covered who processes n p set n))
      (elim (cases_Bool (in_view who n (p ∷ []) n)) [
        | inr f ↦ f
        | inl v ↦ let b = view-below who n (p ∷ []) n v in absurd (omega arith)
      ]) in
      subword-skips w test n out ∙ subword-same w w test (in_residue who processes n p set) n (λ i k. refl) (λ i k. same i)

-- after a word, by an event of the letter a
module _ (loc : ℕ → List ℕ) (letters processes : ℕ) (w : List ℕ) (a : ℕ) (alphabet : IsAlphabet loc letters processes) (word : IsWord letters w)
    (small : a < letters) where
  abbrev wa : List ℕ
  wa = w ++ a ∷ []

  over-next : IsOver loc letters processes wa
  over-next = word-over loc letters processes wa alphabet (word-next letters w a word small)

  -- the residues before it are those of the word
  residue-before : (p : ℕ) (set : ℕ → Bool) → residue_word loc processes wa (length w) p set ≡ residue_word loc processes w (length w) p set
  residue-before p set =
      subword-same wa w (in_residue (participants loc wa) processes (length w) p set) (in_residue (participants loc w) processes (length w) p set) (length w)
      (agrees w a)
      (λ i k. residue-same (participants loc wa) (participants loc w) processes (length w) p set i (λ j m. ap loc (agrees w a j m)))

  pub reset-next : (p : ℕ) (set : ℕ → Bool) → has (loc a) p ≡ true → list_any set (loc a) ≡ true → residue_word loc processes wa (suc (length w)) p set ≡ []
  reset-next p set h t =
      nothing-left loc letters processes wa over-next (length w) (omega (arith, length-next w a)) p set (at-seam loc w a p ∙ h)
      (ap (λ v. list_any set (loc v)) (seam w a) ∙ t)

  pub kept-next : (p : ℕ) (set : ℕ → Bool) → has (loc a) p ≡ false → residue_word loc processes wa (suc (length w)) p set
      ≡ residue_word loc processes w (length w) p set
  kept-next p set h = all-kept loc letters processes wa over-next (length w) (omega (arith, length-next w a)) p set (at-seam loc w a p ∙ h)
      ∙ residue-before p set

  -- what the participants knew without what is beyond, and the event
  pub parts-next : (p : ℕ) (set : ℕ → Bool) → has (loc a) p ≡ true → list_any set (loc a) ≡ false →
      residue_word loc processes wa (suc (length w)) p set
      ≡ subword w (λ i. in_view (participants loc w) (length w) (loc a) i && not (is_beyond (participants loc w) processes (length w) (loc a) set i))
      (length w) ++ a ∷ []
  parts-next p set h f =
      let n : ℕ = length w in
      let who = participants loc wa in
      let who' = participants loc w in
      let agree : (j : ℕ) → j < n → who j ≡ who' j = λ j m. ap loc (agrees w a j m) in
      let known = λ (who : ℕ → List ℕ) (xs : List ℕ) (i : ℕ). in_view who n xs i && not (is_beyond who processes n xs set i) in
      parts-left loc letters processes wa over-next n (omega (arith, length-next w a)) p set (at-seam loc w a p ∙ h) (ap (λ v. list_any set (loc v)) (seam w a)
      ∙ f)
      ∙ ap (λ v. subword wa (known who (loc v)) n ++ v ∷ []) (seam w a)
      ∙ ap (λ v. v ++ a ∷ [])
      (subword-same wa w (known who (loc a)) (known who' (loc a)) n (agrees w a)
      (λ i k. ap (λ v. v && not (is_beyond who processes n (loc a) set i)) (view-same who who' n (loc a) i agree)
      ∙ ap (λ v. in_view who' n (loc a) i && not v) (beyond-same who who' processes n (loc a) set i agree)))

pub participants_compose : ParticipantsCompose
participants_compose loc processes d w a p set q alphabet total diamonds word small start h f =
    let known = known_within loc processes d alphabet total diamonds w (word-over loc d.letters processes w alphabet word) (length w) (omega arith)
    (is_beyond (participants loc w) processes (length w) (loc a) set) (loc a) in
    ap (walk d.step q) (parts-next loc d.letters processes w a alphabet word small p set h f)
    ∙ walk-append d.step q (subword w known (length w)) (a ∷ [])
    ∙ ap (λ v. d.step v a)
    (compose-all loc processes d alphabet total diamonds w (word-over loc d.letters processes w alphabet word) (length w) (omega arith) (loc a) set q start
    (λ y t. alphabet.below a y small t) f)

pub participants_reset : ParticipantsReset
participants_reset loc letters processes w a p set alphabet word small h t = reset-next loc letters processes w a alphabet word small p set h t

pub others_keep_residues : OthersKeepResidues
others_keep_residues loc letters processes w a p set alphabet word small h = kept-next loc letters processes w a alphabet word small p set h

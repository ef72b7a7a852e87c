-- The residues of some processes in turn do what their joined view does.
use Rattle.std.proofs.Common.{◌≡◌, ℕ, zero, suc, ◌<◌, ◌≤◌, Bool, true, false, not, ◌&&◌, ◌||◌, inl, inr, List, [], ◌∷◌, ◌++◌, length, take, slice_index, refl}
use Rattle.std.proofs.Common.{sym, ap, ◌∙◌, arith, take-suc}
use Rattle.std.specs.List.{range_with_len, list_any}
use Rattle.std.specs.Option.{option_map_or}
use Rattle.std.proofs.Math.Seq.{take-length}
use Rattle.std.proofs.lemmas.List.Elements.{All-append}
use Rattle.std.proofs.lemmas.Bool.{cases_Bool, or_cases, or_left, or_right, and_parts, and_from, and_left}
use Rattle.za_alpha.specs.Words.{has, IsAlphabet}
use Rattle.za_order.specs.Views.{participants, in_view, in_past}
use Rattle.za_order.specs.Entries.{primary}
use Rattle.za_order.specs.Words.{subword}
use Rattle.za_order.specs.Locals.{best, is_covered, in_residue, residue_word}
use Rattle.za_order.proofs.Ranges.{range-below, any-none}
use Rattle.za_order.proofs.Sets.{same-test, has-append, has-own, any-where, in-range}
use Rattle.za_order.proofs.Views.{view-down, view-own}
use Rattle.za_order.proofs.Subwords.{subwords-split}
use Rattle.za_order.proofs.Participants.{IsOver, word-over}
use Rattle.za_order.proofs.Rising.{has-place}
use Rattle.za_dfa.specs.Automata.{Automaton, IsTotal, walk, HasDiamonds}
use Rattle.za_dfa.proofs.Diamonds.{walk-append, diamonds_keep_the_state}
use Rattle.za_residue.specs.Laws.{in_turn}
use Rattle.za_residue.specs.Laws.{omitted, ResiduesDecide}
use Rattle.za_residue.proofs.SharedPasts.{view-one, view-of}
use Rattle.za_residue.proofs.Covered.{is_beyond, omitted-cover}
use Rattle.za_residue.proofs.Subwords.{subword-same, subword-none, subword-all, subword-word}

-- what x adds, where what is covered is beyond or known before
pieces : (p x r c : Bool) → (x ≡ true → c ≡ (r || p)) → (((p || x) && not r) && not (p && not r)) ≡ (x && not c)
pieces true true true c h = sym (ap not (h refl))
pieces true true false c h = sym (ap not (h refl))
pieces true false true c h = refl
pieces true false false c h = refl
pieces false true true c h = sym (ap not (h refl))
pieces false true false c h = sym (ap not (h refl))
pieces false false true c h = refl
pieces false false false c h = refl

-- the joined view of one process more
view-more : (who : ℕ → List ℕ) (n : ℕ) (ps : List ℕ) (x i : ℕ) → in_view who n (ps ++ x ∷ []) i ≡ (in_view who n ps i || in_view who n (x ∷ []) i)
view-more who n ps x i =
    same-test (in_view who n (ps ++ x ∷ []) i) (in_view who n ps i || in_view who n (x ∷ []) i)
    (λ v.
    let y = view-of who n (ps ++ x ∷ []) i v in
    elim (or_cases (has ps y.0) (has (x ∷ []) y.0) (sym (has-append ps (x ∷ []) y.0) ∙ y.1)) [
      | inl a ↦ or_left (in_view who n ps i) (in_view who n (x ∷ []) i) (view-one who n ps y.0 i a y.2)
      | inr b ↦ or_right (in_view who n ps i) (in_view who n (x ∷ []) i) (view-one who n (x ∷ []) y.0 i b y.2)
    ])
    (λ h. elim (or_cases (in_view who n ps i) (in_view who n (x ∷ []) i) h) [
      | inl a ↦
          let y = view-of who n ps i a in
          view-one who n (ps ++ x ∷ []) y.0 i (has-append ps (x ∷ []) y.0 ∙ or_left (has ps y.0) (has (x ∷ []) y.0) y.1) y.2
      | inr b ↦ view-one who n (ps ++ x ∷ []) x i (has-append ps (x ∷ []) x ∙ or_right (has ps x) (has (x ∷ []) x) (has-own x)) b
    ])

module _ (loc : ℕ → List ℕ) (processes : ℕ) (d : Automaton) (alphabet : IsAlphabet loc d.letters processes) (total : IsTotal d) (diamonds : HasDiamonds loc d)
    (w : List ℕ) (over : IsOver loc d.letters processes w) (n : ℕ) (l : n ≤ length w) where
  abbrev who : ℕ → List ℕ
  who = participants loc w

  -- what ps know, without what is beyond
  abbrev pub known_within : (ℕ → Bool) → List ℕ → ℕ → Bool
  known_within beyond ps i = in_view who n ps i && not (beyond i)

  -- what one process more adds is its residue
  one-more : (beyond left : ℕ → Bool) (ps : List ℕ) (x q : ℕ) → q < d.states →
      ((i : ℕ) → in_view who n (x ∷ []) i ≡ true → is_covered who processes n x left i ≡ (beyond i || in_view who n ps i)) →
      walk d.step q (subword w (known_within beyond (ps ++ x ∷ [])) n) ≡ walk d.step (walk d.step q (subword w (known_within beyond ps) n))
      (residue_word loc processes w n x left)
  one-more beyond left ps x q small covers =
      let whole : ℕ → Bool = known_within beyond (ps ++ x ∷ []) in
      let part : ℕ → Bool = known_within beyond ps in
      let rest : ℕ → Bool = λ i. whole i && not (part i) in
      let equal = subwords-split loc w part whole
      (λ i a. let p = and_parts (in_view who n ps i) (not (beyond i)) a in
      and_from (in_view who n (ps ++ x ∷ []) i) (not (beyond i)) (view-more who n ps x i ∙ or_left (in_view who n ps i) (in_view who n (x ∷ []) i) p.0) p.1)
      (λ i j a b c.
      let p = and_parts (in_view who n (ps ++ x ∷ []) i) (not (beyond i)) a in
      let t = and_parts (in_view who n ps j) (not (beyond j)) b in
      and_from (in_view who n ps i) (not (beyond i)) (view-down who n ps i j t.0 c) p.1) n in
      let word = λ (test : ℕ → Bool). subword-word loc d.letters processes w over test n l in
      let same = subword-same w w rest (in_residue who processes n x left) n (λ i k. refl)
      (λ i k. ap (λ v. (v && not (beyond i)) && not (part i)) (view-more who n ps x i)
      ∙ pieces (in_view who n ps i) (in_view who n (x ∷ []) i) (beyond i) (is_covered who processes n x left i) (covers i)) in
      diamonds_keep_the_state loc processes d q (subword w whole n) (subword w part n ++ subword w rest n) alphabet total diamonds small (word whole)
      (All-append (λ a. a < d.letters) (subword w part n) (subword w rest n) (word part) (word rest)) equal
      ∙ walk-append d.step q (subword w part n) (subword w rest n)
      ∙ ap (λ v. walk d.step (walk d.step q (subword w part n)) v) same

  -- so the first k of xs do in turn what their joined view does
  pub compose-first : (beyond : ℕ → Bool) (left : List ℕ → ℕ → ℕ → Bool) (xs : List ℕ) (q : ℕ) → q < d.states →
      ((ps : List ℕ) (x i : ℕ) → has xs x ≡ true → in_view who n (x ∷ []) i ≡ true → is_covered who processes n x (left ps x) i
      ≡ (beyond i || in_view who n ps i)) →
      (k : ℕ) → k ≤ length xs →
      walk d.step q (subword w (known_within beyond (take k xs)) n)
      ≡ in_turn (λ i. λ q. walk d.step q (residue_word loc processes w n (slice_index xs i) (left (take i xs) (slice_index xs i)))) k q
  compose-first beyond left xs q small covers zero m =
      ap (walk d.step q) (subword-none w (known_within beyond []) n (λ i k. and_left (in_view who n [] i) (not (beyond i)) (nothing i)))
    where
      nothing : (i : ℕ) → in_view who n [] i ≡ false
      nothing i = elim (cases_Bool (in_view who n [] i)) [
        | inr f ↦ f
        | inl v ↦ let r = view-of who n [] i v in let z : false ≡ true = r.1 in cc
      ]
  compose-first beyond left xs q small covers (suc k) m =
      let x : ℕ = slice_index xs k in
      let ps : List ℕ = take k xs in
      ap (λ v. walk d.step q (subword w (known_within beyond v) n)) (take-suc xs k 0 (omega arith))
      ∙ one-more beyond (left ps x) ps x q small (λ i v. covers ps x i (has-place xs k (omega arith)) v)
      ∙ ap (λ v. walk d.step v (residue_word loc processes w n x (left ps x))) (compose-first beyond left xs q small covers k (omega arith))

  -- and all of them
  pub compose-all : (xs : List ℕ) (set : ℕ → Bool) (q : ℕ) → q < d.states → ((y : ℕ) → has xs y ≡ true → y < processes) → list_any set xs ≡ false →
      walk d.step q (subword w (known_within (is_beyond who processes n xs set) xs) n)
      ≡ in_turn (λ i. λ q. walk d.step q (residue_word loc processes w n (slice_index xs i) (omitted who processes n xs set (take i xs) (slice_index xs i))))
      (length xs) q
  compose-all xs set q small bound apart =
      ap (λ v. walk d.step q (subword w (known_within (is_beyond who processes n xs set) v) n)) (sym (take-length xs))
      ∙ compose-first (is_beyond who processes n xs set) (omitted who processes n xs set) xs q small
      (λ ps x i h v. omitted-cover loc d.letters processes w over n l xs set ps x i h bound apart v) (length xs) (omega arith)

-- all processes together have the whole word
pub residues_decide : ResiduesDecide
residues_decide loc processes d w q alphabet total diamonds word small =
    let over = word-over loc d.letters processes w alphabet word in
    let n : ℕ = length w in
    let who = participants loc w in
    let range = range_with_len 0 processes in
    let none : ℕ → Bool = λ y. false in
    let beyond = is_beyond who processes n range none in
    let empty : (i : ℕ) → beyond i ≡ false = λ i. elim (cases_Bool (beyond i)) [
      | inr f ↦ f
      | inl t ↦ let r = any-where (λ r. none r && option_map_or (λ e. in_past who e i) (primary who n (best who processes n range r) r) false) range t in
          let z : false ≡ true = r.2 in cc
    ] in
    sym (compose-all loc processes d alphabet total diamonds w over n (omega arith) range none q small (λ y h. range-below processes y h)
    (any-none none processes (λ k l. refl)))
    ∙ ap (walk d.step q)
    (subword-all w (λ i. in_view who n range i && not (beyond i)) n (omega arith)
    (λ i k.
    let p = over.some i k in
    and_from (in_view who n range i) (not (beyond i))
    (view-one who n range p.0 i (in-range processes p.0 (over.below i p.0 k p.1)) (view-own who n p.0 i k p.1)) (ap not (empty i)))
    ∙ take-length w)

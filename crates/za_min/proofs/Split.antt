-- The word that the rounds give is the shortlex-least that tells two states apart.
use Rattle.std.proofs.Common.{◌≡◌, ◌≢◌, ℕ, zero, suc, ◌<◌, ◌≤◌, Bool, true, false, ◌&&◌, inl, inr, List, [], ◌∷◌, ◌==◌, nat_lt, length, slice_index, refl, ap}
use Rattle.std.proofs.Common.{subst, ◌∙◌, arith}
use Rattle.std.proofs.lemmas.Bool.{cases_lt, cases_eq, eqb-false, or_from, and_left, and_right, ne_eqb, le-ltb, not-true, not_from_false}
use Rattle.std.proofs.lemmas.List.Elements.{All-head, All-tail, All-cons, All-nil}
use Rattle.za_alpha.specs.Words.{IsWord}
use Rattle.za_alpha.specs.Search.{least}
use Rattle.za_alpha.proofs.Least.{least-true, least-below, least-le}
use Rattle.za_dfa.specs.Automata.{Automaton, IsTotal, walk}
use Rattle.za_min.specs.Shortlex.{is_lower}
use Rattle.za_min.specs.Minimal.{IsLeastApart}
use Rattle.za_min.specs.Private.Rounds.{rounds, splits, split_word, IsSplit}
use Rattle.za_min.proofs.RoundLemmas.{rounds-sound, rounds-complete, rounds-back}

module _ (d : Automaton) (total : IsTotal d) where
  -- where the next letter leads
  pub split-next : (n q r : ℕ) → IsSplit d (suc n) q r →
      (least (splits d (rounds d n) q r) d.letters < d.letters)
      × IsSplit d n (d.step q (least (splits d (rounds d n) q r) d.letters)) (d.step r (least (splits d (rounds d n) q r) d.letters))
  split-next n q r s =
      let test : ℕ → Bool = splits d (rounds d n) q r in
      let a = least (splits d (rounds d n) q r) d.letters in
      let al : a < d.letters = elim (cases_lt a d.letters) [
        | inl l ↦ l
        | inr ge ↦ absurd (s.apart (rounds-back d n q r s.first s.second (s.before n refl) (λ b bl.
            elim (cases_eq (slice_index (rounds d n) (d.step q b)) (slice_index (rounds d n) (d.step r b))) [
              | inl e ↦ e
              | inr ne ↦ absurd (let f = least-below test d.letters b (omega arith) in let g : test b ≡ true =
                  not_from_false (slice_index (rounds d n) (d.step q b) == slice_index (rounds d n) (d.step r b))
                  (ne_eqb (slice_index (rounds d n) (d.step q b)) (slice_index (rounds d n) (d.step r b)) ne) in cc)
            ])))
      ] in (
        al,
        record {
          first = total.steps q a s.first al;
          second = total.steps r a s.second al;
          apart = eqb-false (slice_index (rounds d n) (d.step q a)) (slice_index (rounds d n) (d.step r a))
              (not-true (slice_index (rounds d n) (d.step q a) == slice_index (rounds d n) (d.step r a)) (least-true test d.letters al));
          before = λ k e.
              rounds-complete d total k (d.step q a) (d.step r a) (total.steps q a s.first al) (total.steps r a s.second al)
              (λ w h l. rounds-sound d total n q r s.first s.second (s.before n refl) (a ∷ w) (All-cons (λ c. c < d.letters) a w al h) (omega arith));
        },
      )

  -- the word is as long as there are rounds, and tells the states apart
  split-tells : (n q r : ℕ) → IsSplit d n q r →
      IsWord d.letters (split_word d n q r) × (length (split_word d n q r) ≡ n)
      × (d.accepts (walk d.step q (split_word d n q r)) ≢ d.accepts (walk d.step r (split_word d n q r)))
  split-tells zero q r s =
      (All-nil (λ c. c < d.letters), refl, λ e. s.apart (rounds-complete d total 0 q r s.first s.second (λ w h l. only w l e)))
    where
      only : (w : List ℕ) → length w ≤ 0 → d.accepts q ≡ d.accepts r → d.accepts (walk d.step q w) ≡ d.accepts (walk d.step r w)
      only [] l e = e
      only (a ∷ w) l e = absurd (omega arith)
  split-tells (suc n) q r s =
      let a = least (splits d (rounds d n) q r) d.letters in
      let k = split-next n q r s in
      let i = split-tells n (d.step q a) (d.step r a) k.1 in
      (All-cons (λ c. c < d.letters) a (split_word d n (d.step q a) (d.step r a)) k.0 i.0, ap suc i.1, i.2)

  -- no shorter word tells them apart, and none that is lower
  split-long : (n q r : ℕ) (v : List ℕ) → IsSplit d n q r → IsWord d.letters v → d.accepts (walk d.step q v) ≢ d.accepts (walk d.step r v) → n ≤ length v
  split-long zero q r v s h t = omega arith
  split-long (suc n) q r v s h t =
      elim (cases_lt n (length v)) [
        | inl l ↦ omega arith
        | inr g ↦ absurd (t (rounds-sound d total n q r s.first s.second (s.before n refl) v h g))
      ]

  split-lower : (n q r : ℕ) (v : List ℕ) → IsSplit d n q r → IsWord d.letters v → length v ≡ n → d.accepts (walk d.step q v) ≢ d.accepts (walk d.step r v) →
      is_lower v (split_word d n q r) ≡ false
  split-lower n q r [] s h e t = refl
  split-lower zero q r (b ∷ v) s h e t = absurd (omega arith)
  split-lower (suc n) q r (b ∷ v) s h e t =
      let test : ℕ → Bool = splits d (rounds d n) q r in
      let a = least (splits d (rounds d n) q r) d.letters in
      let k = split-next n q r s in
      let bl = All-head (λ c. c < d.letters) b v h in
      let hv = All-tail (λ c. c < d.letters) b v h in
      let lv : length v ≡ n = omega arith in
      let ne : slice_index (rounds d n) (d.step q b) ≢ slice_index (rounds d n) (d.step r b) =
      λ x. t (rounds-sound d total n (d.step q b) (d.step r b) (total.steps q b s.first bl) (total.steps r b s.second bl) x v hv (omega arith)) in
      let le = least-le test d.letters b
      (not_from_false (slice_index (rounds d n) (d.step q b) == slice_index (rounds d n) (d.step r b))
      (ne_eqb (slice_index (rounds d n) (d.step q b)) (slice_index (rounds d n) (d.step r b)) ne)) in
      let w = split_word d n (d.step q a) (d.step r a) in
      or_from (nat_lt b a) (b == a && is_lower v w) (le-ltb b a le)
      (elim (cases_eq b a) [
        | inr other ↦ and_left (b == a) (is_lower v w) (ne_eqb b a other)
        | inl same ↦
            let t' : d.accepts (walk d.step (d.step q a) v) ≢ d.accepts (walk d.step (d.step r a) v) =
            subst (λ c. d.accepts (walk d.step (d.step q c) v) ≢ d.accepts (walk d.step (d.step r c) v)) same t in
            and_right (b == a) (is_lower v w) (split-lower n (d.step q a) (d.step r a) v k.1 hv lv t')
      ])

  -- the word is the least that tells the states apart
  pub split-least : (n q r : ℕ) → IsSplit d n q r → IsLeastApart d q r (split_word d n q r)
  split-least n q r s =
      let k = split-tells n q r s in
      let w = split_word d n q r in
      let len = k.1 in
      record {
        holds = record { word = k.0; apart = k.2 };
        least = λ v p.
            let l = split-long n q r v s p.word p.apart in
            or_from (nat_lt (length v) (length w)) (length v == length w && is_lower v w) (le-ltb (length v) (length w) (omega arith))
            (elim (cases_eq (length v) n) [
              | inl e ↦ and_right (length v == length w) (is_lower v w) (split-lower n q r v s p.word e p.apart)
              | inr ne ↦ and_left (length v == length w) (is_lower v w) (ne_eqb (length v) (length w) (λ y. ne (y ∙ len)))
            ]);
      }

  -- states that a round tells apart are told apart by a first round
  pub split-found : (k q r : ℕ) → q < d.states → r < d.states → slice_index (rounds d k) q ≢ slice_index (rounds d k) r → (n : ℕ) × (n ≤ k) × IsSplit d n q r
  split-found zero q r ql rl ne = (0, omega arith, record { first = ql; second = rl; apart = ne; before = λ k e. absurd (omega arith) })
  split-found (suc k) q r ql rl ne =
      elim (cases_eq (slice_index (rounds d k) q) (slice_index (rounds d k) r)) [
        | inl e ↦ (
          suc k,
          omega arith,
          record {
            first = ql;
            second = rl;
            apart = ne;
            before = λ j s. let same : k ≡ j = omega arith in
                subst (λ i. slice_index (rounds d i) q ≡ slice_index (rounds d i) r) same e;
          },
        )
        | inr n ↦ let i = split-found k q r ql rl n in let le = i.1 in (i.0, omega arith, i.2)
      ]
